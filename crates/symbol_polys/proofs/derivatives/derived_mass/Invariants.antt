use Rattle.std.proofs.Common.{◌≡◌, ◌≤◌, ◌+◌, drop}
use Rattle.exact_sums.specs.Saturating.{overflow, saturated}
use Rattle.symbol_polys.specs.Polynomials.{size_of}
use Rattle.symbol_polys.specs.Derivatives.{derivatives}
use Rattle.symbol_polys.specs.View.{symbol_of, terms_of}
use Rattle.symbol_polys.proofs.derivatives.derived_mass.Given as goal

abbrev pub invariant-loop-term : goal.invariant-loop-term
invariant-loop-term l = record {
  within : l.mass ≤ overflow;
  sum : saturated (l.mass + size_of (derivatives (symbol_of l.by) (terms_of (drop l.term-index l.terms)))) ≡ saturated (size_of (derivatives (symbol_of l.by) (terms_of l.terms)));
}
