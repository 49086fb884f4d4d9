use Rattle.std.proofs.Common.{arith}
use Rattle.tree_pool.proofs.Walks.{no_edge, below_at}
use Rattle.gaussian_pairings.proofs.DirectionSums.{integrated_whole}
use Rattle.gaussian_pairings.proofs.vanishing.+has_integrated.Goals as goal

pub loop-e-init : goal.loop-e-init
loop-e-init t c = integrated_whole c.args.types.now c.args.pool.now c.args.id.0 c.node.result.0.entries c.node.result.1.now c.node.ensures.tree

pub is_within-requires-clause-known : goal.is_within-requires-clause-known
is_within-requires-clause-known t c =
    let below = below_at c.args.id.0 c.node.result.1.now c.loop-e.e-index no_edge c.node.ensures.below c.loop-e-test.true in
    omega (arith, below, c.requires.known)

pub has_integrated-requires : goal.has_integrated-requires
has_integrated-requires t c =
    let below = below_at c.args.id.0 c.node.result.1.now c.loop-e.e-index no_edge c.node.ensures.below c.loop-e-test.true in
    (omega (arith, below), (omega (arith, below, c.requires.known), c.requires.types))
