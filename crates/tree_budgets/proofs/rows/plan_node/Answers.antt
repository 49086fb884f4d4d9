use Rattle.tree_budgets.proofs.Plans.{node_plan_is}
use Rattle.tree_budgets.proofs.rows.plan_node.Goals as goal

pub returns : goal.returns
returns c = node_plan_is c.args.eq.now c.args.lows.now c.args.row.now c.args.node.now c.reserve.result c.in_ok-extensions.extensions c.reserve.ensures.reserve c.reserve.ensures.modest c.in_ok-extensions.ensures
