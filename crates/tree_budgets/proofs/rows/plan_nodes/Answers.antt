use Rattle.tree_budgets.proofs.Loops.{read_member}
use Rattle.tree_budgets.proofs.Plans.{node_plans_step}
use Rattle.tree_budgets.proofs.rows.plan_nodes.Goals as goal

pub plan_node-requires-clause-node : goal.plan_node-requires-clause-node
plan_node-requires-clause-node c =
    read_member c.as_slice-node-items.result.now c.args.row.now.nodes c.loop-node.node-index c.node-item.result _ c.loop-node-test.true c.node-item.is c.as_slice-node-items.ensures

pub loop-node-preserved : goal.loop-node-preserved
loop-node-preserved c =
    node_plans_step c.args.eq.now c.args.lows.now c.args.row.now c.as_slice-node-items.result.now c.loop-node.node-index c.node-item.result _ c.loop-node.plans c.push.new.self c.in_ok-plan_node.field-0 c.loop-node-test.true
    c.node-item.is c.in_ok-push.ensures.ok c.loop-node.invariant c.in_ok-plan_node.ensures
