use Rattle.std.proofs.Common.{◌≡◌}
use Rattle.std.specs.List.{AllByRecursion}
use Rattle.symbol_polys.specs.Polynomials.{monomials}
use Rattle.symbol_polys.specs.Symbols.{IsMonomial}
use Rattle.symbol_polys.specs.View.{terms_of}
use Rattle.symbol_polys.proofs.collecting.bare_terms.Given as goal

abbrev pub invariant-loop-term : goal.invariant-loop-term
invariant-loop-term l = record { terms : terms_of l.bare ≡ l.yielded; each : AllByRecursion IsMonomial (monomials (terms_of l.bare)) }
