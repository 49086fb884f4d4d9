-- Two lists of terms, one after the other.
use Rattle.std.proofs.Common.{◌≡◌, ℕ, ◌+◌, ◌<◌, ◌≤◌, cond, List, [], ◌∷◌, ◌++◌, ℤ, pos, ◌+ℤ◌, ◌≤ℤ◌, unsigned_abs, to_z, of_z, arith}
use Rattle.std.specs.Int.{w128}
use Rattle.std.specs.Ordering.{is_eq}
use Rattle.std.proofs.lemmas.Int.{ints}
use Rattle.exact_sums.specs.Saturating.{overflow}
use Rattle.exact_sums.proofs.SumLaws.{total-append}
use Rattle.symbol_polys.specs.Symbols.{PlainSymbol, monomial_order}
use Rattle.symbol_polys.specs.Polynomials.{PlainTerm, coefficient_of, size_of, IsPolynomial}
use Rattle.symbol_polys.proofs.PolyLaws.{below_mass, mass_kept}

one_more : (a x y z : ℤ) → x ≡ y +ℤ z → a +ℤ x ≡ a +ℤ y +ℤ z
one_more a x y z h = omega (arith, ints)

pub coefficient_of-append : (m : List PlainSymbol) (ts us : List PlainTerm) → coefficient_of m (ts ++ us) ≡ coefficient_of m ts +ℤ coefficient_of m us
coefficient_of-append m [] us = omega (arith, ints)
coefficient_of-append m (t ∷ ts) us =
    one_more (cond (is_eq (monomial_order t.symbols m)) t.coefficient (pos 0)) _ (coefficient_of m ts) (coefficient_of m us) (coefficient_of-append m ts us)

pub size_of-append : (ts us : List PlainTerm) → size_of (ts ++ us) ≡ size_of ts + size_of us
size_of-append ts us = total-append (λ (t : PlainTerm). unsigned_abs t.coefficient) ts us

pub size_of-sum : (a b : ℤ) (ts us : List PlainTerm) → IsPolynomial a ts → IsPolynomial b us → size_of (ts ++ us) ≤ unsigned_abs a + unsigned_abs b
size_of-sum a b ts us h k = omega (arith, size_of-append ts us, below_mass (size_of ts) a h.within, below_mass (size_of us) b k.within)

at_most : (n k : ℕ) (z : ℤ) → z ≡ pos k → n ≤ k → pos n ≤ℤ z
at_most n k z h l = omega (arith, ints)

-- with a greater mass, which is stored
pub widened : (n k : ℕ) (z : ℤ) (ts : List PlainTerm) → z ≡ pos k → n ≤ k → k < overflow → IsPolynomial (pos n) ts → IsPolynomial (to_z w128 (of_z w128 z)) ts
widened n k z ts h l o p = record {
  each = p.each;
  ascending = p.ascending;
  not_zero = p.not_zero;
  within = at_most (size_of ts) k (to_z w128 (of_z w128 z)) (mass_kept k z h o) (omega (arith, l, below_mass (size_of ts) (pos n) p.within));
}
