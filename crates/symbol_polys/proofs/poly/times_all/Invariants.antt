use Rattle.std.proofs.Common.{◌≡◌, take}
use Rattle.symbol_polys.specs.Polynomials.{times_all}
use Rattle.symbol_polys.specs.View.{terms_of}
use Rattle.symbol_polys.proofs.poly.times_all.Given as goal

abbrev pub invariant-loop-term : goal.invariant-loop-term
invariant-loop-term l = terms_of l.scaled ≡ times_all l.by (terms_of (take l.term-index l.terms))
