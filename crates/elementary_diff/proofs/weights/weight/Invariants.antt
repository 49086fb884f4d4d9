use Rattle.std.proofs.Common.{◌≡◌, ◌≤◌, ◌+◌, drop}
use Rattle.exact_sums.specs.Saturating.{overflow, saturated}
use Rattle.symbol_polys.specs.View.{terms_of}
use Rattle.elementary_diff.specs.Masses.{weight}
use Rattle.elementary_diff.proofs.weights.weight.Given as goal

abbrev pub invariant-loop-term : goal.invariant-loop-term
invariant-loop-term l = record {
  within : l.sum ≤ overflow;
  sum : saturated (l.sum + weight l.exponent (terms_of (drop l.term-index l.terms))) ≡ saturated (weight l.exponent (terms_of l.terms));
}
