use Rattle.std.proofs.Common.{take}
use Rattle.tree_budgets.specs.Plan.{AreNodePlans}
use Rattle.tree_budgets.proofs.rows.plan_nodes.Given as goal

abbrev pub invariant-loop-node : goal.invariant-loop-node
invariant-loop-node l = AreNodePlans l.eq l.lows l.row (take l.node-index l.node-items) l.plans
