use Rattle.std.proofs.Common.{take}
use Rattle.tree_budgets.specs.Plan.{AreRowPlans}
use Rattle.tree_budgets.proofs.rows.plan_rows.Given as goal

abbrev pub invariant-loop-row : goal.invariant-loop-row
invariant-loop-row l = AreRowPlans l.eq l.lows l.mosts (take l.row-index l.row-items) l.plans
