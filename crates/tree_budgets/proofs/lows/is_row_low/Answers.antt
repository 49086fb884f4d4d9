use Rattle.tree_budgets.specs.Bounds.{IsLowAt}
use Rattle.tree_budgets.proofs.Loops.{all_step, all_done}
use Rattle.tree_budgets.proofs.lows.is_row_low.Goals as goal

pub loop-node-preserved : goal.loop-node-preserved
loop-node-preserved c =
    all_step (IsLowAt c.args.types.now c.args.lows.now c.args.row.now.kernel.0) c.as_slice-node-items.result.now c.loop-node.node-index c.node-item.result _ c.loop-node-test.true c.node-item.is c.loop-node.invariant
    (c.is_low_at.ensures c.if-not-is_low_at.false)

pub returns : goal.returns
returns c = λ t. record {
  each = all_done (IsLowAt c.args.types.now c.args.lows.now c.args.row.now.kernel.0) c.as_slice-node-items.result.now c.args.row.now.nodes c.loop-node.node-index c.loop-node-test.false c.as_slice-node-items.ensures c.loop-node.invariant;
}
