use Rattle.std.proofs.Common.{◌≡◌, ◌++◌, drop}
use Rattle.symbol_polys.specs.View.{symbol_of, terms_of}
use Rattle.symbol_polys.proofs.DerivativeLaws.{kept_derivatives}
use Rattle.symbol_polys.proofs.derivatives.derived_terms.Given as goal

abbrev pub invariant-loop-term : goal.invariant-loop-term
invariant-loop-term l =
    terms_of l.derived ++ kept_derivatives (symbol_of l.by) (terms_of (drop l.term-index l.term-items)) ≡ kept_derivatives (symbol_of l.by) (terms_of l.f.terms)
