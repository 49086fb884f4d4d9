use Rattle.std.proofs.Common.{◌≡◌, ◌-◌, ◌<◌, map, drop}
use Rattle.std.specs.Ordering.{is_lt}
use Rattle.symbol_polys.specs.Neighbours.{neighbours}
use Rattle.symbol_polys.specs.Polynomials.{monomials}
use Rattle.symbol_polys.specs.Symbols.{monomial_order}
use Rattle.symbol_polys.specs.TermReading.{written_of}
use Rattle.symbol_polys.specs.View.{symbol_of}
use Rattle.symbol_polys.proofs.written.are_ascending.Given as goal

abbrev pub invariant-loop-i : goal.invariant-loop-i
invariant-loop-i l = record {
  some : 0 < l.i;
  tested : neighbours (λ m n. is_lt (monomial_order m n)) (map (λ w. map symbol_of w.symbols) (drop (l.i - 1) l.terms)) ≡ neighbours (λ m n. is_lt (monomial_order m n)) (monomials (map written_of l.terms));
}
