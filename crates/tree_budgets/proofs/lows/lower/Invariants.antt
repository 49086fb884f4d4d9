use Rattle.tree_budgets.specs.Bounds.{AreTypeBounds}
use Rattle.tree_budgets.proofs.lows.lower.Given as goal

abbrev pub invariant-loop-node : goal.invariant-loop-node
invariant-loop-node l = AreTypeBounds l.types l.lows
