use Rattle.degree_numbers.specs.Degree.{IsWithin}
use Rattle.large_trees.proofs.lower_bounds.least_sum.Given as goal

abbrev pub invariant-loop-row : goal.invariant-loop-row
invariant-loop-row l = IsWithin l.least 100000000000000000
