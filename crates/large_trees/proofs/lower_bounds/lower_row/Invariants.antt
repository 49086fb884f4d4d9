use Rattle.large_trees.specs.Charges.{AreBounds}
use Rattle.large_trees.proofs.lower_bounds.lower_row.Given as goal

abbrev pub invariant-loop-node : goal.invariant-loop-node
invariant-loop-node l = AreBounds l.types l.bounds
