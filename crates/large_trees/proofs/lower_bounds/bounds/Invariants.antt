use Rattle.large_trees.specs.Charges.{AreBounds}
use Rattle.large_trees.proofs.lower_bounds.bounds.Given as goal

abbrev pub invariant-loop : goal.invariant-loop
invariant-loop l = AreBounds l.types l.bounds.items
