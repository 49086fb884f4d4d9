-- Numbers in units of one over d and of one over e that are the same, by products.
use Rattle.std.proofs.Common.{◌≡◌, ℕ, zero, suc, ◌*◌, ◌/◌, ◌<◌, ℤ, pos, negsuc, neg_ℤ, ◌+ℤ◌, ◌*ℤ◌, ◌<ℤ◌, unsigned_abs, Bool, true, false, Less, Greater, arith, refl, sym, ap, ◌∙◌}
use Rattle.std.specs.Cmp.{int_cmp_is}
use Rattle.std.specs.Ordering.{int_cmp}
use Rattle.std.proofs.Math.IntN.{zero-*ℤ, pos-*ℤ-pos, negsuc-*ℤ-pos}
use Rattle.std.proofs.Math.Nat.{mul-div-mul_left}
use Rattle.std.proofs.lemmas.Bool.{false≢true}
use Rattle.std.proofs.lemmas.Int.{ints, unsigned_abs-mul}
use Rattle.exact_sums.specs.Sums.{counted_if}
use Rattle.symbol_polys.proofs.SignedLaws.{sum_times}
use Rattle.type_contexts.specs.Same.{IsSameFraction}
use Rattle.type_contexts.proofs.SameNumbers.{not_negative}

-- x over d and y over e are the same number
abbrev pub IsSameIn : ℕ → ℕ → ℤ → ℤ → Type 0
IsSameIn d e x y = x *ℤ pos e ≡ y *ℤ pos d

pub of_fraction : (d e : ℕ) (x y : ℤ) → IsSameFraction x d y e → IsSameIn d e x y
of_fraction d e (pos m) (pos n) h = pos-*ℤ-pos m e ∙ ap pos h.size ∙ sym (pos-*ℤ-pos n d)
of_fraction d e (pos m) (negsuc n) h = absurd (false≢true (sym (not_negative m) ∙ h.sign))
of_fraction d e (negsuc m) (pos n) h = absurd (false≢true (sym (not_negative n) ∙ sym h.sign))
of_fraction d e (negsuc m) (negsuc n) h =
    negsuc-*ℤ-pos m e ∙ ap (λ k. neg_ℤ (pos k)) h.size ∙ sym (negsuc-*ℤ-pos n d)

pub of_sum : (d e : ℕ) (x y z w : ℤ) → IsSameIn d e x y → IsSameIn d e z w →
    IsSameIn d e (x +ℤ z) (y +ℤ w)
of_sum d e x y z w h k = sum_times x z (pos e) ∙ (λ i. h i +ℤ k i) ∙ sym (sum_times y w (pos d))

pub none_in : (d e : ℕ) → IsSameIn d e (pos 0) (pos 0)
none_in d e = zero-*ℤ (pos e) ∙ sym (zero-*ℤ (pos d))

pub of_whole : (d e n : ℕ) → IsSameIn d e (pos (d * n)) (pos (e * n))
of_whole d e n =
    let both : d * n * e ≡ e * n * d = omega arith in
    pos-*ℤ-pos (d * n) e ∙ ap pos both ∙ sym (pos-*ℤ-pos (e * n) d)

minus_times : (m k : ℕ) → neg_ℤ (pos m) *ℤ pos k ≡ neg_ℤ (pos (m * k))
minus_times zero k =
    let none : 0 * k ≡ 0 = omega arith in
    zero-*ℤ (pos k) ∙ ap (λ n. neg_ℤ (pos n)) (sym none)
minus_times (suc m) k = negsuc-*ℤ-pos m k

pub of_minus : (d e n : ℕ) → IsSameIn d e (neg_ℤ (pos (d * n))) (neg_ℤ (pos (e * n)))
of_minus d e n =
    let both : d * n * e ≡ e * n * d = omega arith in
    minus_times (d * n) e ∙ ap (λ k. neg_ℤ (pos k)) both ∙ sym (minus_times (e * n) d)

-- the same sign
product_above : (x y : ℕ) → 0 < x → 0 < y → 0 < x * y
product_above x y p q = grind (arith, p, q)

above_zero : (z : ℤ) (n : ℕ) → z ≡ pos n → 0 < n → pos 0 <ℤ z
above_zero z n is h = omega (arith, ints, is, h)

below_zero : (z : ℤ) (n : ℕ) → z ≡ neg_ℤ (pos n) → 0 < n → z <ℤ pos 0
below_zero z n is h = omega (arith, ints, is, h)

scaled : (x : ℤ) (k : ℕ) → 0 < k → int_cmp x (pos 0) ≡ int_cmp (x *ℤ pos k) (pos 0)
scaled (pos zero) k above = sym (ap (λ z. int_cmp z (pos 0)) (zero-*ℤ (pos k)))
scaled (pos (suc n)) k above =
    sym (int_cmp_is (pos (suc n)) (pos 0) Greater (above_zero (pos (suc n)) (suc n) refl (omega arith)))
    ∙ int_cmp_is (pos (suc n) *ℤ pos k) (pos 0) Greater
    (above_zero (pos (suc n) *ℤ pos k) (suc n * k) (pos-*ℤ-pos (suc n) k)
    (product_above (suc n) k (omega arith) above))
scaled (negsuc n) k above =
    sym (int_cmp_is (negsuc n) (pos 0) Less (below_zero (negsuc n) (suc n) refl (omega arith)))
    ∙ int_cmp_is (negsuc n *ℤ pos k) (pos 0) Less
    (below_zero (negsuc n *ℤ pos k) (suc n * k) (negsuc-*ℤ-pos n k)
    (product_above (suc n) k (omega arith) above))

pub same_sign : (d e : ℕ) (x y : ℤ) → 0 < d → 0 < e → IsSameIn d e x y →
    int_cmp x (pos 0) ≡ int_cmp y (pos 0)
same_sign d e x y d_above e_above h =
    scaled x e e_above ∙ ap (λ z. int_cmp z (pos 0)) h ∙ sym (scaled y d d_above)

-- sizes
pub same_size : (d e : ℕ) (x y : ℤ) → IsSameIn d e x y → unsigned_abs x * e ≡ unsigned_abs y * d
same_size d e x y h =
    sym (unsigned_abs-mul x (pos e)) ∙ ap unsigned_abs h ∙ unsigned_abs-mul y (pos d)

pub counted_size : (d e m n : ℕ) (b : Bool) → m * e ≡ n * d →
    counted_if b m * e ≡ counted_if b n * d
counted_size d e m n true h = h
counted_size d e m n false h = omega arith

pub same_whole : (d e m n : ℕ) → 0 < d → 0 < e → m * e ≡ n * d → m / d ≡ n / e
same_whole d e m n d_above e_above h =
    sym (mul-div-mul_left m d e_above)
    ∙ (let left : e * m ≡ d * n = omega (arith, h) in
    let under : e * d ≡ d * e = omega arith in
    λ i. left i / under i)
    ∙ mul-div-mul_left n e d_above
