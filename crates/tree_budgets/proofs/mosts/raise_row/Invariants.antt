use Rattle.tree_budgets.specs.Bounds.{IsTypeTable}
use Rattle.tree_budgets.proofs.mosts.raise_row.Given as goal

abbrev pub invariant-loop-node : goal.invariant-loop-node
invariant-loop-node l = IsTypeTable l.types l.mosts
