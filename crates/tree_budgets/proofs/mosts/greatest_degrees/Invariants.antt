use Rattle.tree_budgets.specs.Bounds.{IsTypeTable}
use Rattle.tree_budgets.proofs.mosts.greatest_degrees.Given as goal

abbrev pub invariant-loop : goal.invariant-loop
invariant-loop l = IsTypeTable l.types l.mosts
