use Rattle.plain_trees.specs.View.{plain}
use Rattle.known_equations.proofs.PooledTexts.{read_bounded}
use Rattle.known_equations.proofs.pools.interned.Goals as goal

pub returns-clause-bounded : goal.returns-clause-bounded
returns-clause-bounded c =
    read_bounded c.args.types.now c.args.text.now c.intern_tree.new.self c.in-Ok-intern_tree.id.0
    (plain c.in-Ok.tree) c.in-Ok.ensures.tree c.in-Ok-intern_tree.ensures.tree
