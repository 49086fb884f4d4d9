use Rattle.std.proofs.Common.{◌≡◌, ◌-◌, ◌<◌, map, drop}
use Rattle.std.specs.Prelude.{not}
use Rattle.std.specs.Ordering.{is_lt}
use Rattle.symbol_polys.specs.Neighbours.{neighbours}
use Rattle.symbol_polys.specs.Symbols.{symbol_order}
use Rattle.symbol_polys.specs.View.{symbol_of}
use Rattle.symbol_polys.proofs.reading_terms.is_ascending.Given as goal

abbrev pub invariant-loop-i : goal.invariant-loop-i
invariant-loop-i l = record {
  some : 0 < l.i;
  tested : neighbours (λ s t. not (is_lt (symbol_order t s))) (map symbol_of (drop (l.i - 1) l.symbols)) ≡ neighbours (λ s t. not (is_lt (symbol_order t s))) (map symbol_of l.symbols);
}
