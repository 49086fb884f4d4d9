use Rattle.std.proofs.Common.{◌≡◌, map, drop}
use Rattle.std.specs.Cmp.Lexicographic.{slice_cmp}
use Rattle.symbol_polys.specs.Symbols.{symbol_order}
use Rattle.symbol_polys.specs.View.{symbol_of}
use Rattle.symbol_polys.proofs.symbols.monomial_order.Given as goal

abbrev pub invariant-loop-i : goal.invariant-loop-i
invariant-loop-i l =
    slice_cmp symbol_order (map symbol_of (drop l.i l.a)) (map symbol_of (drop l.i l.b)) ≡ slice_cmp symbol_order (map symbol_of l.a) (map symbol_of l.b)
