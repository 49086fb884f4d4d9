use Rattle.std.proofs.Common.{arith, length}
use Rattle.tree_pool.proofs.Trees.{AreBelow-le}
use Rattle.tree_listing.proofs.Growing.{root_over, root_canon}
use Rattle.tree_listing.proofs.stems.decorate.Goals as goal

pub intern_node-requires-clause-known : goal.intern_node-requires-clause-known
intern_node-requires-clause-known c =
    let known = c.requires.known in AreBelow-le c.args.stem.0 (length c.args.pool.now.trees) c.node.result.1.now (omega (arith, known)) c.node.ensures.below

pub intern_node-requires-clause-types : goal.intern_node-requires-clause-types
intern_node-requires-clause-types c = rw (root_over c.args.pool.now c.args.stem.0 c.args.n.now.entries c.node.result.0.entries c.node.result.1.now c.node.ensures.tree) c.requires.kept.known

pub intern_node-requires-clause-small : goal.intern_node-requires-clause-small
intern_node-requires-clause-small c = rw (root_over c.args.pool.now c.args.stem.0 c.args.n.now.entries c.node.result.0.entries c.node.result.1.now c.node.ensures.tree) c.requires.kept.small

pub returns-clause-tree : goal.returns-clause-tree
returns-clause-tree c = rw (root_canon c.args.pool.now c.args.stem.0 c.args.n.now.entries c.node.result.0.entries c.node.result.1.now c.requires.kept c.node.ensures.tree) at c.intern_node.ensures.tree
