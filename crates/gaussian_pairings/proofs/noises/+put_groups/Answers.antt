use Rattle.std.proofs.Common.{arith, ap, ◌++◌, List, ℕ}
use Rattle.tree_pool.proofs.Walks.{no_edge, below_at}
use Rattle.gaussian_pairings.proofs.NoiseCounts.{groups_whole}
use Rattle.gaussian_pairings.proofs.noises.+put_groups.Goals as goal

pub loop-e-init : goal.loop-e-init
loop-e-init t c = ap (λ (gs : List ℕ). c.args.groups.now.items ++ gs) (groups_whole c.args.types.now c.args.pool.now c.args.id.0 c.node.result.0.entries c.node.result.1.now c.node.ensures.tree)

pub put_groups-requires : goal.put_groups-requires
put_groups-requires t c =
    let below = below_at c.args.id.0 c.node.result.1.now c.loop-e.e-index no_edge c.node.ensures.below c.loop-e-test.true in
    (omega (arith, below), omega (arith, below, c.requires))
