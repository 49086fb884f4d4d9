use Rattle.std.proofs.Common.{◌≤◌, ◌+◌, map, unsigned_abs}
use Rattle.std.specs.Vec.Iter.{into_iter_items}
use Rattle.symbol_polys.specs.Polynomials.{size_of}
use Rattle.symbol_polys.specs.Symbols.{IsMonomial}
use Rattle.symbol_polys.specs.View.{symbol_of, term_of}
use Rattle.symbol_polys.proofs.JoinLaws.{IsJoinedSoFar}
use Rattle.symbol_polys.proofs.collecting.joined.Given as goal

abbrev pub invariant-loop-next : goal.invariant-loop-next
invariant-loop-next l = record {
  whole : IsJoinedSoFar l.yielded l.terms.items (term_of l.open);
  size : unsigned_abs l.open.coefficient + size_of (into_iter_items l.next-iterator) ≤ size_of l.fn.sorted.items;
  monomial : IsMonomial (map symbol_of l.open.symbols);
}
