use Rattle.tree_budgets.specs.Bounds.{IsTypeTable}
use Rattle.tree_budgets.proofs.mosts.raise_each.Given as goal

abbrev pub invariant-loop-row : goal.invariant-loop-row
invariant-loop-row l = IsTypeTable l.types l.mosts
