use Rattle.large_trees.specs.Charges.{AreBounds}
use Rattle.large_trees.proofs.lower_bounds.lower_each.Given as goal

abbrev pub invariant-loop-row : goal.invariant-loop-row
invariant-loop-row l = AreBounds l.types l.bounds
