use Rattle.std.proofs.Common.{arith}
use Rattle.tree_pool.specs.Content.{tree_over}
use Rattle.tree_pool.proofs.Walks.{no_edge, below_at}
use Rattle.gaussian_pairings.proofs.DirectionSums.{sum_cut, sum_end, sum_within}
use Rattle.gaussian_pairings.proofs.vanishing.+sum_in.Goals as goal

pub sum_in-requires : goal.sum_in-requires
sum_in-requires t c =
    let below = below_at c.args.id.0 c.node.result.1.now c.loop-e.e-index no_edge c.node.ensures.below c.loop-e-test.true in
    (omega (arith, below), omega (arith, below, c.requires))

pub overflow_add-sum : goal.overflow_add-sum
overflow_add-sum t c =
    omega (
      arith,
      c.entry_in.ensures,
      c.sum_in.ensures,
      c.loop-e.invariant,
      sum_cut c.args.direction c.args.pool.now c.node.result.0.entries c.node.result.1.now c.loop-e.e-index no_edge c.loop-e-test.true,
      sum_within c.args.direction c.args.pool.now c.args.id.0 (tree_over c.args.pool.now.trees c.node.result.0.entries c.node.result.1.now) c.node.ensures.tree c.node.ensures.kept.small.decorations,
    )

pub overflow_add-sum-in-loop-e : goal.overflow_add-sum-in-loop-e
overflow_add-sum-in-loop-e t c =
    omega (
      arith,
      c.entry_in.ensures,
      c.sum_in.ensures,
      c.loop-e.invariant,
      sum_cut c.args.direction c.args.pool.now c.node.result.0.entries c.node.result.1.now c.loop-e.e-index no_edge c.loop-e-test.true,
      sum_within c.args.direction c.args.pool.now c.args.id.0 (tree_over c.args.pool.now.trees c.node.result.0.entries c.node.result.1.now) c.node.ensures.tree c.node.ensures.kept.small.decorations,
    )

pub overflow_add-result : goal.overflow_add-result
overflow_add-result t c =
    omega (
      arith,
      c.entry_in-2.ensures,
      c.loop-e.invariant,
      sum_end c.args.direction c.args.pool.now c.node.result.0.entries c.node.result.1.now c.loop-e.e-index c.loop-e-test.false,
      sum_within c.args.direction c.args.pool.now c.args.id.0 (tree_over c.args.pool.now.trees c.node.result.0.entries c.node.result.1.now) c.node.ensures.tree c.node.ensures.kept.small.decorations,
    )
