use Rattle.normal_rule.proofs.Sizes.{step_fits, step_sum}
use Rattle.normal_rule.proofs.regularity.node_regularity.Goals as goal

pub plus-sum-requires-clause-a_fits : goal.plus-sum-requires-clause-a_fits
plus-sum-requires-clause-a_fits c =
    rw (c.loop-edge.invariant, c.edge_regularity.ensures)
    (step_fits c.args.eq.now c.args.node.now c.as_slice-edge-items.result.now c.loop-edge.edge-index _ c.requires.equation c.requires.measured c.as_slice-edge-items.ensures c.loop-edge-test.true)

pub loop-edge-preserved : goal.loop-edge-preserved
loop-edge-preserved c =
    step_sum c.args.eq.now c.args.node.now c.as_slice-edge-items.result.now c.loop-edge.edge-index _ c.loop-edge.sum c.edge_regularity.result c.plus-sum.result c.as_slice-edge-items.ensures c.loop-edge-test.true c.loop-edge.invariant c.edge_regularity.ensures c.plus-sum.ensures
