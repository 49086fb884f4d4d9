use Rattle.std.proofs.Common.{◌≡◌, ◌+◌, map, drop}
use Rattle.std.specs.List.{prefix_len, AllByRecursion}
use Rattle.std.specs.Ordering.{is_eq}
use Rattle.symbol_polys.specs.Symbols.{symbol_order, HasBoundedTree}
use Rattle.symbol_polys.specs.View.{symbol_of}
use Rattle.symbol_polys.proofs.text.equal_at_front.Given as goal

abbrev pub invariant-loop-i : goal.invariant-loop-i
invariant-loop-i l = record {
  place : prefix_len (λ t. is_eq (symbol_order (symbol_of l.s) t)) (map symbol_of l.symbols) ≡ l.i + prefix_len (λ t. is_eq (symbol_order (symbol_of l.s) t)) (map symbol_of (drop l.i l.symbols));
  small : AllByRecursion HasBoundedTree (map symbol_of (drop l.i l.symbols));
}
