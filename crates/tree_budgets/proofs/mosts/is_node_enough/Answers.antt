use Rattle.std.proofs.Common.{get_or, refl}
use Rattle.tree_budgets.specs.Bounds.{IsEnough}
use Rattle.tree_budgets.proofs.Loops.{all_step, all_done, no_edge}
use Rattle.tree_budgets.proofs.mosts.is_node_enough.Goals as goal

pub loop-edge-preserved : goal.loop-edge-preserved
loop-edge-preserved c =
    all_step (IsEnough c.args.types.now c.args.lows.now c.args.mosts.now c.args.kernel.0 c.args.node.now.edges) c.as_slice-edge-items.result.now c.loop-edge.edge-index
    (get_or c.as_slice-edge-items.result.now c.loop-edge.edge-index no_edge) no_edge c.loop-edge-test.true refl c.loop-edge.invariant (c.is_enough.ensures c.if-not-is_enough.false)

pub returns-after-loop-edge : goal.returns-after-loop-edge
returns-after-loop-edge c = λ t. record {
  each = λ u. all_done (IsEnough c.args.types.now c.args.lows.now c.args.mosts.now c.args.kernel.0 c.args.node.now.edges) c.as_slice-edge-items.result.now c.args.node.now.edges c.loop-edge.edge-index c.loop-edge-test.false
      c.as_slice-edge-items.ensures c.loop-edge.invariant;
}
