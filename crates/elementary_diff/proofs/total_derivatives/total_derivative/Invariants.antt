use Rattle.std.proofs.Common.{◌≡◌, ◌++◌, drop}
use Rattle.symbol_polys.specs.View.{terms_of}
use Rattle.elementary_diff.specs.Differentials.{total_derivative}
use Rattle.elementary_diff.proofs.total_derivatives.total_derivative.Given as goal

abbrev pub invariant-loop-term : goal.invariant-loop-term
invariant-loop-term l = terms_of l.derived.items ++ total_derivative l.direction (terms_of (drop l.term-index l.terms)) ≡ total_derivative l.direction (terms_of l.terms)
