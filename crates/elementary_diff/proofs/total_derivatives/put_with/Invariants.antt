use Rattle.std.proofs.Common.{◌≡◌, ◌++◌, map, take}
use Rattle.symbol_polys.specs.View.{symbol_of, terms_of}
use Rattle.elementary_diff.specs.Places.{times_symbol}
use Rattle.elementary_diff.proofs.total_derivatives.put_with.Given as goal

abbrev pub invariant-loop-term : goal.invariant-loop-term
invariant-loop-term l = terms_of l.products.items ≡ terms_of l.fn.products.items ++ map (times_symbol (symbol_of l.s)) (terms_of (take l.term-index l.terms))
