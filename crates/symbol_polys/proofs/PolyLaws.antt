-- Polynomials with one term or none, and a polynomial times a number.
use Rattle.std.proofs.Common.{◌≡◌, ◌≢◌, ℕ, zero, suc, ◌*◌, ◌<◌, ◌≤◌, true, false, Bool, cond, List, [], ◌∷◌, length, get_or, map, ℤ, pos, negsuc, ◌+ℤ◌, ◌*ℤ◌, ◌≤ℤ◌, unsigned_abs, FitsSigned, to_z, of_z, refl, sym, ap, subst, ◌∙◌, arith, rules}
use Rattle.std.specs.Int.{w128}
use Rattle.std.specs.List.{AllByRecursion}
use Rattle.std.specs.List.Sorted.{IsStrictlySortedBy}
use Rattle.std.specs.Ordering.{is_eq}
use Rattle.std.proofs.lemmas.Int.{ints, to_z-of_z, unsigned_abs-mul}
use Rattle.std.proofs.lemmas.Nat.{mul-le}
use Rattle.exact_sums.specs.Saturating.{overflow}
use Rattle.symbol_polys.proofs.SignedLaws.{times_sum}
use Rattle.symbol_polys.specs.Symbols.{PlainSymbol, monomial_order, HasBoundedTree, IsMonomial}
use Rattle.symbol_polys.specs.Polynomials.{PlainTerm, monomials, coefficient_of, size_of, IsPolynomial, times_all}
use Rattle.symbol_polys.specs.View.{symbol_of, terms_of}
use Rattle.symbol_polys.specs.declared.poly.Term.{Term}

pub no_terms : (mass : ℤ) → pos 0 ≤ℤ mass → IsPolynomial mass []
unfolding IsStrictlySortedBy
no_terms mass h = record { each = tt; ascending = tt; not_zero = tt; within = h }

pub one_term : (m : List PlainSymbol) → IsMonomial m → IsPolynomial (pos 1) (record { coefficient = pos 1; symbols = m } ∷ [])
unfolding IsStrictlySortedBy
one_term m h = record { each = (h, tt); ascending = (tt, tt); not_zero = (omega arith, tt); within = omega (arith, ints) }

pub no_symbols : IsMonomial []
no_symbols = record { ascending = search rules; trees = tt }

pub one_symbol : (s : PlainSymbol) → HasBoundedTree s → IsMonomial (s ∷ [])
one_symbol s h = record { ascending = search rules; trees = (h, tt) }

pub monomials-times_all : (z : ℤ) (ts : List PlainTerm) → monomials (times_all z ts) ≡ monomials ts
monomials-times_all z [] = refl
monomials-times_all z (t ∷ ts) = ap (λ (ms : List (List PlainSymbol)). t.symbols ∷ ms) (monomials-times_all z ts)

pub size_of-times_all : (z : ℤ) (ts : List PlainTerm) → size_of (times_all z ts) ≡ unsigned_abs z * size_of ts
size_of-times_all z [] = omega arith
size_of-times_all z (t ∷ ts) = omega (arith, unsigned_abs-mul z t.coefficient, size_of-times_all z ts)

chosen : (z c : ℤ) (b : Bool) → cond b (z *ℤ c) (pos 0) ≡ z *ℤ cond b c (pos 0)
chosen z c true = refl
chosen z c false = omega (arith, ints)

pub coefficient_of-times_all : (z : ℤ) (m : List PlainSymbol) (ts : List PlainTerm) → coefficient_of m (times_all z ts) ≡ z *ℤ coefficient_of m ts
coefficient_of-times_all z m [] = omega (arith, ints)
coefficient_of-times_all z m (t ∷ ts) =
    let here = is_eq (monomial_order t.symbols m) in
    ap (λ (c : ℤ). c +ℤ coefficient_of m (times_all z ts)) (chosen z t.coefficient here)
    ∙ ap (λ (c : ℤ). z *ℤ cond here t.coefficient (pos 0) +ℤ c) (coefficient_of-times_all z m ts)
    ∙ sym (times_sum z (cond here t.coefficient (pos 0)) (coefficient_of m ts))

pub above_zero : (a b : ℕ) → 0 < a → 0 < b → 0 < a * b
above_zero a b p q = omega (arith, mul-le 1 1 a b (omega arith) (omega arith))

not_zero-times_all : (z : ℤ) (ts : List PlainTerm) → 0 < unsigned_abs z →
    AllByRecursion (λ t. 0 < unsigned_abs t.coefficient) ts →
    AllByRecursion (λ t. 0 < unsigned_abs t.coefficient) (times_all z ts)
not_zero-times_all z [] p h = tt
not_zero-times_all z (t ∷ ts) p h =
    (omega (arith, unsigned_abs-mul z t.coefficient, above_zero (unsigned_abs z) (unsigned_abs t.coefficient) p h.0), not_zero-times_all z ts p h.1)

pub below_mass : (n : ℕ) (mass : ℤ) → pos n ≤ℤ mass → n ≤ unsigned_abs mass
below_mass n mass h = omega (arith, ints)

at_most : (m n : ℕ) → m ≤ n → pos m ≤ℤ pos n
at_most m n h = omega (arith, ints)

size_within : (z mass : ℤ) (ts : List PlainTerm) → pos (size_of ts) ≤ℤ mass → unsigned_abs z * size_of ts ≤ unsigned_abs z * unsigned_abs mass
size_within z mass ts h = mul-le (unsigned_abs z) (size_of ts) (unsigned_abs z) (unsigned_abs mass) (omega arith) (below_mass (size_of ts) mass h)

pub scaled : (z mass : ℤ) (ts : List PlainTerm) → 0 < unsigned_abs z → IsPolynomial mass ts →
    IsPolynomial (pos (unsigned_abs z * unsigned_abs mass)) (times_all z ts)
scaled z mass ts p h = record {
  each = subst (λ ms. AllByRecursion IsMonomial ms) (sym (monomials-times_all z ts)) h.each;
  ascending = subst (λ ms. IsStrictlySortedBy monomial_order ms) (sym (monomials-times_all z ts)) h.ascending;
  not_zero = not_zero-times_all z ts p h.not_zero;
  within = at_most _ _ (omega (arith, size_of-times_all z ts, size_within z mass ts h.within));
}

-- each term's symbols are a monomial
pub each_at : (ts : List Term) (i : ℕ) (t : Term) → i < length ts → t ≡ get_or ts i t →
    AllByRecursion IsMonomial (monomials (terms_of ts)) → IsMonomial (map symbol_of t.symbols)
each_at [] i t h e a = absurd (omega arith)
each_at (u ∷ ts) zero t h e a = rw e a.0
each_at (u ∷ ts) (suc i) t h e a = each_at ts i t (omega arith) e a.1

-- the coefficients of a product by a number are in range where the product of the mass is
pub size_at : (ts : List Term) (i : ℕ) (t : Term) → i < length ts → t ≡ get_or ts i t → unsigned_abs t.coefficient ≤ size_of (terms_of ts)
size_at [] i t h e = absurd (omega arith)
size_at (u ∷ ts) zero t h e = omega (arith, ap (λ (x : Term). unsigned_abs x.coefficient) e)
size_at (u ∷ ts) (suc i) t h e = omega (arith, size_at ts i t (omega arith) e)

pub below_at : (b x s : ℕ) → x ≤ s → b * s < overflow → b * x < overflow
below_at b x s h k = omega (arith, mul-le b x b s (omega arith) h)

pub below_scaled : (z mass : ℤ) (ts : List PlainTerm) → pos (size_of ts) ≤ℤ mass →
    unsigned_abs z * unsigned_abs mass < overflow → unsigned_abs z * size_of ts < overflow
below_scaled z mass ts h k = omega (arith, size_within z mass ts h)

in_range : (z : ℤ) → unsigned_abs z < overflow → FitsSigned w128 z
in_range z h = omega (arith, ints)

pub fits_product : (by z : ℤ) → unsigned_abs by * unsigned_abs z < overflow → FitsSigned w128 (by *ℤ z)
fits_product by z h = in_range (by *ℤ z) (omega (arith, unsigned_abs-mul by z))

-- a mass in range is what it was when it is stored
pub mass_kept : (n : ℕ) (z : ℤ) → z ≡ pos n → n < overflow → to_z w128 (of_z w128 z) ≡ pos n
mass_kept n z h k = rw h (to_z-of_z w128 (pos n) (in_range (pos n) k))

pub scaled_kept : (z w mass : ℤ) (ts : List PlainTerm) → 0 < unsigned_abs w →
    z ≡ pos (unsigned_abs w * unsigned_abs mass) → unsigned_abs w * unsigned_abs mass < overflow →
    IsPolynomial mass ts →
    IsPolynomial (to_z w128 (of_z w128 z)) (times_all w ts)
scaled_kept z w mass ts p h k f = rw (mass_kept (unsigned_abs w * unsigned_abs mass) z h k) (scaled w mass ts p f)

pub nothing_left : (z : ℤ) (n : ℕ) → z ≡ pos n → n < overflow → IsPolynomial (to_z w128 (of_z w128 z)) []
nothing_left z n h k = rw (mass_kept n z h k) (no_terms (pos n) (omega (arith, ints)))

pub differs : (z : ℤ) → of_z w128 z ≢ 0 → 0 < unsigned_abs z
differs (pos zero) h = absurd (h refl)
differs (pos (suc n)) h = omega arith
differs (negsuc n) h = omega arith
