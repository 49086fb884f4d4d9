use Rattle.std.proofs.Common.{arith}
use Rattle.tree_pool.specs.Content.{tree_over}
use Rattle.tree_pool.proofs.Walks.{no_edge, below_at}
use Rattle.gaussian_pairings.proofs.NoiseCounts.{noises_whole, noises_cut, noises_within}
use Rattle.gaussian_pairings.proofs.vanishing.+noises_in.Goals as goal

pub loop-e-init : goal.loop-e-init
loop-e-init t c = omega (arith, noises_whole c.args.types.now c.args.pool.now c.args.id.0 c.node.result.0.entries c.node.result.1.now c.args.group c.node.ensures.tree)

pub noises_in-requires : goal.noises_in-requires
noises_in-requires t c =
    let below = below_at c.args.id.0 c.node.result.1.now c.loop-e.e-index no_edge c.node.ensures.below c.loop-e-test.true in
    (omega (arith, below), omega (arith, below, c.requires))

pub overflow_add-count : goal.overflow_add-count
overflow_add-count t c =
    omega (
      arith,
      c.noise_here.ensures,
      c.noises_in.ensures,
      c.loop-e.invariant,
      noises_cut c.args.types.now c.args.pool.now c.node.result.1.now c.loop-e.e-index no_edge c.args.group c.loop-e-test.true,
      noises_within c.args.types.now c.args.pool.now c.args.id.0 (tree_over c.args.pool.now.trees c.node.result.0.entries c.node.result.1.now) c.args.group c.node.ensures.tree c.node.ensures.kept.small.edges,
    )

pub overflow_add-count-in-loop-e : goal.overflow_add-count-in-loop-e
overflow_add-count-in-loop-e t c =
    omega (
      arith,
      c.noise_here.ensures,
      c.noises_in.ensures,
      c.loop-e.invariant,
      noises_cut c.args.types.now c.args.pool.now c.node.result.1.now c.loop-e.e-index no_edge c.args.group c.loop-e-test.true,
      noises_within c.args.types.now c.args.pool.now c.args.id.0 (tree_over c.args.pool.now.trees c.node.result.0.entries c.node.result.1.now) c.args.group c.node.ensures.tree c.node.ensures.kept.small.edges,
    )

pub loop-e-preserved : goal.loop-e-preserved
loop-e-preserved t c =
    omega (arith, c.noise_here.ensures, c.noises_in.ensures, c.loop-e.invariant, noises_cut c.args.types.now c.args.pool.now c.node.result.1.now c.loop-e.e-index no_edge c.args.group c.loop-e-test.true)
