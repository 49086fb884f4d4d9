use Rattle.tree_pool.specs.Forests.{forest_at}
use Rattle.tree_pool.proofs.Ids.{known_forest, known_append, numbers_both}
use Rattle.tree_pool.proofs.forest.ForestPool.join.Goals as goal

pub intern-requires-clause-known : goal.intern-requires-clause-known
intern-requires-clause-known c =
    let both = numbers_both c.trees.result.now c.trees-2.result.now c.args.self.now c.args.f.0 c.args.g.0 c.trees.ensures c.trees-2.ensures in
    rw (c.as_slice.ensures.value, c.in_ok-ids.ensures, both) (known_append c.args.pool.now (forest_at c.args.self.now c.args.f.0) (forest_at c.args.self.now c.args.g.0)
    (known_forest c.args.self.now c.args.pool.now c.args.f.0 c.requires.fits c.requires.known_f) (known_forest c.args.self.now c.args.pool.now c.args.g.0 c.requires.fits c.requires.known_g))
