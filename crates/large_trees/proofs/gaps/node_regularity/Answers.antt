use Rattle.std.proofs.Common.{◌<◌, ◌*◌, ◌+◌, arith, rules}
use Rattle.large_trees.proofs.Bounds.{sum_small, within_plus, step_sum}
use Rattle.large_trees.proofs.gaps.node_regularity.Goals as goal

pub plus-sum-requires-clause-a_fits : goal.plus-sum-requires-clause-a_fits
plus-sum-requires-clause-a_fits c =
    let few : c.loop-edge.edge-index < 18446744073709551616 = search rules in
    sum_small c.loop-edge.sum.a c.edge_regularity.result.a (1000000000000000000 * c.loop-edge.edge-index) 1000000000000000000 c.loop-edge.invariant.small c.edge_regularity.ensures.small (omega arith)

pub loop-edge-preserved : goal.loop-edge-preserved
loop-edge-preserved c = record {
  sum = step_sum c.args.eq.now c.args.node.now c.as_slice-edge-items.result.now c.loop-edge.edge-index _ c.loop-edge.sum c.edge_regularity.result c.plus-sum.result c.as_slice-edge-items.ensures c.loop-edge-test.true
      c.loop-edge.invariant.sum c.edge_regularity.ensures.value c.plus-sum.ensures;
  small = rw c.plus-sum.ensures
      (within_plus c.loop-edge.sum.a c.edge_regularity.result.a (1000000000000000000 * c.loop-edge.edge-index) 1000000000000000000 (1000000000000000000 * (c.loop-edge.edge-index + 1)) c.loop-edge.invariant.small
      c.edge_regularity.ensures.small (omega arith));
}
