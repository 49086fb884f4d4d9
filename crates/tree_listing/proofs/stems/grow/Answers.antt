use Rattle.tree_listing.proofs.Growing.{growth_below, growth_over, growth_canon}
use Rattle.tree_listing.proofs.stems.grow.Goals as goal

pub intern_node-requires-clause-known : goal.intern_node-requires-clause-known
intern_node-requires-clause-known c =
    growth_below c.args.pool.now c.args.growth.now c.node.result.1.now c.as_slice.result.now c.requires c.node.ensures.below (rw c.as_slice.ensures.value c.in_ok-edges.ensures)

pub intern_node-requires-clause-small : goal.intern_node-requires-clause-small
intern_node-requires-clause-small c =
    rw (growth_over c.args.pool.now c.args.growth.now c.node.result.0.entries c.node.result.1.now c.as_slice.result.now c.node.ensures.tree (rw c.as_slice.ensures.value c.in_ok-edges.ensures)) c.requires.kept.small

pub returns-clause-tree : goal.returns-clause-tree
returns-clause-tree c =
    rw (growth_canon c.args.pool.now c.args.growth.now c.node.result.0.entries c.node.result.1.now c.as_slice.result.now c.requires c.node.ensures.tree (rw c.as_slice.ensures.value c.in_ok-edges.ensures)) at c.intern_node.ensures.tree
