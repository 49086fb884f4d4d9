use Rattle.tree_budgets.specs.Bounds.{AreTypeBounds}
use Rattle.tree_budgets.proofs.lows.least_degrees.Given as goal

abbrev pub invariant-loop : goal.invariant-loop
invariant-loop l = AreTypeBounds l.eq.types l.lows
