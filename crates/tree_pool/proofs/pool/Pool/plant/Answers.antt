use Rattle.tree_pool.proofs.Makings.{planted_types, planted_canon}
use Rattle.tree_pool.proofs.pool.Pool.plant.Goals as goal

pub intern_node-requires-clause-types : goal.intern_node-requires-clause-types
intern_node-requires-clause-types c = rw c.zero.ensures (planted_types c.args.self.now c.args.kind.0 c.args.p.entries c.args.t.0 c.laws.ensures c.requires.known c.requires.edge)

pub returns-clause-tree : goal.returns-clause-tree
returns-clause-tree c =
    let same = planted_canon c.args.self.now c.args.kind.0 c.args.p.entries c.args.t.0 c.laws.ensures c.requires.known in
    rw (c.zero.ensures, same) at c.intern_node.ensures.tree

pub returns-clause-grown : goal.returns-clause-grown
returns-clause-grown c =
    let same = planted_canon c.args.self.now c.args.kind.0 c.args.p.entries c.args.t.0 c.laws.ensures c.requires.known in
    rw (c.zero.ensures, same) at c.intern_node.ensures.grown
