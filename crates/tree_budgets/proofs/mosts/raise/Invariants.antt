use Rattle.tree_budgets.specs.Bounds.{IsTypeTable}
use Rattle.tree_budgets.proofs.mosts.raise.Given as goal

abbrev pub invariant-loop-edge : goal.invariant-loop-edge
invariant-loop-edge l = IsTypeTable l.types l.mosts
