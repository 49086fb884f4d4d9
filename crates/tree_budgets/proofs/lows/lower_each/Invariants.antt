use Rattle.tree_budgets.specs.Bounds.{AreTypeBounds}
use Rattle.tree_budgets.proofs.lows.lower_each.Given as goal

abbrev pub invariant-loop-row : goal.invariant-loop-row
invariant-loop-row l = AreTypeBounds l.eq.types l.lows
