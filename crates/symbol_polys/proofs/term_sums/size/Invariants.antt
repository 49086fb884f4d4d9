use Rattle.std.proofs.Common.{◌≡◌, ◌≤◌, ◌+◌, drop}
use Rattle.exact_sums.specs.Saturating.{overflow, saturated}
use Rattle.symbol_polys.specs.Polynomials.{size_of}
use Rattle.symbol_polys.specs.View.{terms_of}
use Rattle.symbol_polys.proofs.term_sums.size.Given as goal

abbrev pub invariant-loop-term : goal.invariant-loop-term
invariant-loop-term l = record {
  within : l.sum ≤ overflow;
  sum : saturated (l.sum + size_of (terms_of (drop l.term-index l.terms))) ≡ saturated (size_of (terms_of l.terms));
}
