use Rattle.std.proofs.Common.{refl, arith}
use Rattle.tree_pool.proofs.Walks.{no_edge, below_at}
use Rattle.tree_listing.proofs.Walks.{front_is, front_all}
use Rattle.tree_listing.proofs.passes.front_of.Goals as goal

pub returns-in-empty : goal.returns-in-empty
returns-in-empty c = front_all c.args.pool.now c.args.edge.now c.args.rest c.node.result.0.entries c.node.result.1.now c.node.ensures.tree c.in-empty.len_below

pub returns-in-len1-up : goal.returns-in-len1-up
returns-in-len1-up c =
    let below = below_at c.args.rest.0 c.node.result.1.now 0 no_edge c.node.ensures.below (omega (arith, c.in-len1-up.len_at_least)) in
    rw c.front_by.ensures
    (front_is c.args.pool.now c.args.edge.now c.args.rest c.node.result.0.entries c.node.result.1.now c.then.result c.node.ensures.tree c.in-len1-up.len_at_least (omega (arith, below, c.requires.rest))
    (rw (c.then.ensures, c.order.ensures, c.cmp-by_kind.ensures) refl))
