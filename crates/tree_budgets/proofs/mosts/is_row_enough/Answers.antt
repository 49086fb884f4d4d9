use Rattle.std.proofs.Common.{rules}
use Rattle.tree_budgets.specs.Bounds.{AreEnough}
use Rattle.tree_budgets.proofs.Loops.{all_step, all_done}
use Rattle.tree_budgets.proofs.mosts.is_row_enough.Goals as goal

pub loop-node-preserved : goal.loop-node-preserved
loop-node-preserved c =
    all_step (AreEnough c.args.types.now c.args.lows.now c.args.mosts.now c.args.row.now.kernel.0) c.as_slice-node-items.result.now c.loop-node.node-index c.node-item.result _ c.loop-node-test.true
    c.node-item.is c.loop-node.invariant (c.is_node_enough.ensures c.if-not-is_node_enough.false)

pub returns : goal.returns
returns c = λ t. record {
  root = let e = c.order.ensures in let n = c.ne.ensures in let at = c.at.ensures in search rules;
  each = all_done (AreEnough c.args.types.now c.args.lows.now c.args.mosts.now c.args.row.now.kernel.0) c.as_slice-node-items.result.now c.args.row.now.nodes c.loop-node.node-index c.loop-node-test.false
      c.as_slice-node-items.ensures c.loop-node.invariant;
}
