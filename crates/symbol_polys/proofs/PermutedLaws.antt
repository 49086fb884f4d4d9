-- Terms in another order have the same coefficients and the same size.
use Rattle.std.proofs.Common.{◌≡◌, ℕ, ◌+◌, suc, Bool, true, false, cond, List, [], ◌∷◌, ℤ, pos, negsuc, ◌+ℤ◌, ◌-ℤ◌, unsigned_abs, refl, sym, ap, ◌∙◌, arith}
use Rattle.std.specs.List.{sum_by}
use Rattle.std.specs.List.Sorted.{IsPermutation}
use Rattle.std.specs.Ordering.{is_eq}
use Rattle.std.proofs.lemmas.Int.{ints}
use Rattle.std.proofs.lemmas.List.Sums.{sum_by-cons}
use Rattle.std.proofs.lemmas.List.Sorted.{sum_by-IsPermutation}
use Rattle.symbol_polys.specs.Symbols.{PlainSymbol, monomial_order}
use Rattle.symbol_polys.specs.Polynomials.{PlainTerm, coefficient_of, size_of, IsSumOf}

-- a number is the difference of its parts above and below 0
abbrev above : ℤ → ℕ
above (pos n) = n
above (negsuc n) = 0

abbrev below : ℤ → ℕ
below (pos n) = 0
below (negsuc n) = suc n

abbrev above_at : List PlainSymbol → PlainTerm → ℕ
above_at m t = cond (is_eq (monomial_order t.symbols m)) (above t.coefficient) 0

abbrev below_at : List PlainSymbol → PlainTerm → ℕ
below_at m t = cond (is_eq (monomial_order t.symbols m)) (below t.coefficient) 0

parted : (z : ℤ) → z ≡ pos (above z) -ℤ pos (below z)
parted (pos n) = omega (arith, ints)
parted (negsuc n) = omega (arith, ints)

parted_if : (b : Bool) (z : ℤ) → cond b z (pos 0) ≡ pos (cond b (above z) 0) -ℤ pos (cond b (below z) 0)
parted_if true z = parted z
parted_if false z = omega (arith, ints)

one_more : (z s s' : ℤ) (a b c d x y : ℕ) → s' ≡ z +ℤ s → z ≡ pos a -ℤ pos b → s ≡ pos c -ℤ pos d → x ≡ a + c → y ≡ b + d → s' ≡ pos x -ℤ pos y
one_more z s s' a b c d x y g h i j k = omega (arith, ints)

coefficient_parts : (m : List PlainSymbol) (ts : List PlainTerm) → coefficient_of m ts ≡ pos (sum_by (above_at m) ts) -ℤ pos (sum_by (below_at m) ts)
coefficient_parts m [] = refl
coefficient_parts m (t ∷ ts) =
    one_more _ (coefficient_of m ts) _ (above_at m t) (below_at m t) (sum_by (above_at m) ts) (sum_by (below_at m) ts) _ _ refl
    (parted_if (is_eq (monomial_order t.symbols m)) t.coefficient) (coefficient_parts m ts) (sum_by-cons (above_at m) t ts) (sum_by-cons (below_at m) t ts)

pub coefficient_of-permutation : (m : List PlainSymbol) (ts us : List PlainTerm) → IsPermutation ts us → coefficient_of m us ≡ coefficient_of m ts
coefficient_of-permutation m ts us h =
    coefficient_parts m us
    ∙ ap (λ (n : ℕ). pos n -ℤ pos (sum_by (below_at m) us)) (sum_by-IsPermutation (above_at m) ts us h)
    ∙ ap (λ (n : ℕ). pos (sum_by (above_at m) ts) -ℤ pos n) (sum_by-IsPermutation (below_at m) ts us h)
    ∙ sym (coefficient_parts m ts)

abbrev size_at : PlainTerm → ℕ
size_at t = unsigned_abs t.coefficient

size_sum : (ts : List PlainTerm) → sum_by size_at ts ≡ size_of ts
size_sum [] = refl
size_sum (t ∷ ts) = omega (arith, sum_by-cons size_at t ts, size_sum ts)

pub size_of-permutation : (ts us : List PlainTerm) → IsPermutation ts us → size_of us ≡ size_of ts
size_of-permutation ts us h = sym (size_sum us) ∙ sum_by-IsPermutation size_at ts us h ∙ size_sum ts

pub is_sum-permutation : (ts us vs : List PlainTerm) → IsPermutation ts us → IsSumOf us vs → IsSumOf ts vs
is_sum-permutation ts us vs h s = record {
  ascending = s.ascending;
  not_zero = s.not_zero;
  coefficients = λ m. s.coefficients m ∙ coefficient_of-permutation m ts us h;
  size = omega (arith, s.size, size_of-permutation ts us h);
}
