use Rattle.degree_numbers.specs.Degree.{IsWithin}
use Rattle.large_trees.proofs.lower_bounds.least_of_row.Given as goal

abbrev pub invariant-loop-node : goal.invariant-loop-node
invariant-loop-node l = IsWithin l.least 100000000000000000
