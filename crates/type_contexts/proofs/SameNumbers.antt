-- Fractions that are the same number.
use Rattle.std.proofs.Common.{◌≡◌, ℕ, zero, suc, negsuc, neg_ℤ, ◌*◌, ◌/◌, ◌<◌, ◌≤◌, Bool, true, false, ℤ, pos, ◌*ℤ◌, ◌<ℤ◌, unsigned_abs, arith, refl, ap, sym, subst, ◌∙◌}
use Rattle.std.specs.Int.{◌∣◌, is_negative}
use Rattle.std.proofs.Math.IntN.{negsuc-*ℤ-pos}
use Rattle.std.proofs.Math.Nat.{div-mul_cancel, dvd-mul_left, mul-le-mul_right, le_of_mul-le-mul_right}
use Rattle.std.proofs.lemmas.Bool.Decides.{nat_tests}
use Rattle.std.proofs.lemmas.Int.{ints, unsigned_abs-mul}
use Rattle.degree_numbers.specs.Fraction.{Fraction, IsLowest, IsFractionInRange, under_sign}
use Rattle.degree_numbers.specs.Printing.{IsLowestOf}
use Rattle.degree_numbers.specs.Types.{IsWritable}
use Rattle.degree_numbers.proofs.InUnits.{size_under_sign}
use Rattle.degree_numbers.proofs.LowestTerms.{cancelled, lowest_one}
use Rattle.type_contexts.specs.Same.{IsSameFraction}

pub same_sym : (x : ℤ) (d : ℕ) (y : ℤ) (e : ℕ) → IsSameFraction x d y e → IsSameFraction y e x d
same_sym x d y e h = record { size = sym h.size; sign = sym h.sign }

size_through : (x d y e z g : ℕ) → 0 < e → x * e ≡ y * d → y * g ≡ z * e → x * g ≡ z * d
size_through x d y e z g above h k =
    cancelled e (x * g) (z * d) above
    (let one : x * g * e ≡ x * e * g = omega arith in
    let two : y * d * g ≡ y * g * d = omega arith in
    let three : z * e * d ≡ z * d * e = omega arith in
    one ∙ ap (λ n. n * g) h ∙ two ∙ ap (λ n. n * d) k ∙ three)

pub same_trans : (x : ℤ) (d : ℕ) (y : ℤ) (e : ℕ) (z : ℤ) (g : ℕ) → 0 < e → IsSameFraction x d y e → IsSameFraction y e z g → IsSameFraction x d z g
same_trans x d y e z g above h k = record { size = size_through (unsigned_abs x) d (unsigned_abs y) e (unsigned_abs z) g above h.size k.size; sign = h.sign ∙ k.sign }

pub not_negative : (n : ℕ) → is_negative (pos n) ≡ false
not_negative n = grind (arith, nat_tests)

negated : (m : ℕ) → 0 < m → is_negative (neg_ℤ (pos m)) ≡ true
negated zero h = absurd (omega (arith, h))
negated (suc m) h = refl

product_above : (x y : ℕ) → 0 < x → 0 < y → 0 < x * y
product_above x y p q = grind (arith, p, q)

sign_times : (z : ℤ) (k : ℕ) → 0 < k → is_negative (z *ℤ pos k) ≡ is_negative z
sign_times (pos n) k h = not_negative (n * k) ∙ sym (not_negative n)
sign_times (negsuc n) k h = ap is_negative (negsuc-*ℤ-pos n k) ∙ negated (suc n * k) (product_above (suc n) k (omega arith) h)

pub size_is : (d : ℤ) → pos 0 <ℤ d → pos (unsigned_abs d) ≡ d
size_is d h = omega (arith, ints)

pub size_above : (d : ℤ) → pos 0 <ℤ d → 0 < unsigned_abs d
size_above d h = omega (arith, ints)

sign_by : (z d : ℤ) → pos 0 <ℤ d → is_negative (z *ℤ d) ≡ is_negative z
sign_by z d h = ap (λ k. is_negative (z *ℤ k)) (sym (size_is d h)) ∙ sign_times z (unsigned_abs d) (size_above d h)

pub same_from_products : (x d y e : ℤ) → pos 0 <ℤ d → pos 0 <ℤ e → x *ℤ e ≡ y *ℤ d → IsSameFraction x (unsigned_abs d) y (unsigned_abs e)
same_from_products x d y e d_above e_above h = record {
  size = sym (unsigned_abs-mul x e) ∙ ap unsigned_abs h ∙ unsigned_abs-mul y d;
  sign = sym (sign_by x e e_above) ∙ ap is_negative h ∙ sign_by y d d_above;
}

lowest_through : (x d y e n b : ℕ) → 0 < d → x * e ≡ y * d → IsLowest x d n b → IsLowest y e n b
lowest_through x d y e n b above h low = record {
  den_above = low.den_above;
  equal =
      cancelled d (n * e) (y * b) above
      (let one : n * e * d ≡ n * d * e = omega arith in
      let two : x * b * e ≡ x * e * b = omega arith in
      let three : y * d * b ≡ y * b * d = omega arith in
      one ∙ ap (λ m. m * e) low.equal ∙ two ∙ ap (λ m. m * b) h ∙ three);
  in_lowest = low.in_lowest;
}

-- the same number has the same form in lowest terms
pub lowest_same : (x : ℤ) (d : ℕ) (y : ℤ) (e : ℕ) (f : Fraction) → 0 < d → IsSameFraction x d y e → IsLowestOf x d f → IsLowestOf y e f
lowest_same x d y e f above h low = record { sign = low.sign ∙ h.sign; value = lowest_through (unsigned_abs x) d (unsigned_abs y) e f.num f.den above h.size low.value }

pub range_same : (x : ℤ) (d : ℕ) (y : ℤ) (e : ℕ) → 0 < d → IsSameFraction x d y e → IsFractionInRange d x → IsFractionInRange e y
range_same x d y e above h r = (r.0, r.1, lowest_through (unsigned_abs x) d (unsigned_abs y) e r.0 r.1 above h.size r.2, r.3, r.4)

small_through : (x d y e : ℕ) → 0 < d → x * e ≡ y * d → x ≤ 20 * d → y ≤ 20 * e
small_through x d y e above h small =
    let up : x * e ≤ 20 * d * e = mul-le-mul_right e small in
    let turned : 20 * d * e ≡ 20 * e * d = omega arith in
    let le : y * d ≤ 20 * e * d = omega (arith, up, turned, h) in
    le_of_mul-le-mul_right le above

pub writable_same : (x : ℤ) (d : ℕ) (y : ℤ) (e : ℕ) → 0 < d → IsSameFraction x d y e → IsWritable d x → IsWritable e y
writable_same x d y e above h w = record { size = small_through (unsigned_abs x) d (unsigned_abs y) e above h.size w.size; written = range_same x d y e above h w.written }

-- a number that makes the one whole makes the other whole
pub clears_same : (x : ℤ) (d : ℕ) (y : ℤ) (e l : ℕ) → 0 < d → IsSameFraction x d y e → d ∣ l * unsigned_abs x → e ∣ l * unsigned_abs y
clears_same x d y e l above h p =
    let q = l * unsigned_abs x / d in
    let q_is : q * d ≡ l * unsigned_abs x = div-mul_cancel d p in
    let same : q * e ≡ l * unsigned_abs y =
    cancelled d (q * e) (l * unsigned_abs y) above
    (let one : q * e * d ≡ q * d * e = omega arith in
    let two : l * unsigned_abs x * e ≡ l * (unsigned_abs x * e) = omega arith in
    let three : l * (unsigned_abs y * d) ≡ l * unsigned_abs y * d = omega arith in
    one ∙ ap (λ n. n * e) q_is ∙ two ∙ ap (λ n. l * n) h.size ∙ three) in
    subst (λ n. e ∣ n) same (dvd-mul_left e q)

-- and the common denominator makes a degree whole
pub whole_same : (x : ℤ) (d : ℕ) (y : ℤ) (e : ℕ) → IsSameFraction x d y e → e ∣ d * unsigned_abs y
whole_same x d y e h = subst (λ n. e ∣ n) (let turned : unsigned_abs y * d ≡ d * unsigned_abs y = omega arith in h.size ∙ turned) (dvd-mul_left e (unsigned_abs x))

fraction_is : (f g : Fraction) → f.negative ≡ g.negative → f.num ≡ g.num → f.den ≡ g.den → f ≡ g
fraction_is f g negative num den = ap (λ b. made b f.num f.den) negative ∙ ap (λ n. made g.negative n f.den) num ∙ ap (λ d. made g.negative g.num d) den
  where
    made : Bool → ℕ → ℕ → Fraction
    made negative num den = record { negative = negative; num = num; den = den }

-- a number has one form in lowest terms
pub lowest_form : (z : ℤ) (den : ℕ) (f g : Fraction) → 0 < den → IsLowestOf z den f → IsLowestOf z den g → f ≡ g
lowest_form z den f g above h k =
    let same = lowest_one (unsigned_abs z) den f.num f.den g.num g.den above h.value k.value in fraction_is f g (h.sign ∙ sym k.sign) same.0 same.1

pub sign_of_size : (negative : Bool) (m n : ℕ) → (0 < m → 0 < n) → (0 < n → 0 < m) → is_negative (under_sign negative m) ≡ is_negative (under_sign negative n)
sign_of_size false m n to from = not_negative m ∙ sym (not_negative n)
sign_of_size true zero zero to from = refl
sign_of_size true zero (suc n) to from = absurd (let h = from (omega arith) in omega (arith, h))
sign_of_size true (suc m) zero to from = absurd (let h = to (omega arith) in omega (arith, h))
sign_of_size true (suc m) (suc n) to from = refl

pub some_too : (x d y e : ℕ) → 0 < e → x * e ≡ y * d → 0 < x → 0 < y
some_too x d zero e above h some = absurd (none x e above (h ∙ omega arith) some)
  where
    none : (x e : ℕ) → 0 < e → x * e ≡ 0 → 0 < x → ⊥
    none (suc x) (suc e) above h some = omega (arith, h)
    none zero e above h some = omega (arith, some)
    none (suc x) zero above h some = omega (arith, above)
some_too x d (suc y) e above h some = omega arith

-- two forms of a fraction under its sign
pub signed_same : (negative : Bool) (x d y e : ℕ) → 0 < d → 0 < e → x * e ≡ y * d → IsSameFraction (under_sign negative x) d (under_sign negative y) e
signed_same negative x d y e d_above e_above h = record {
  size = ap (λ n. n * e) (size_under_sign negative x) ∙ h ∙ ap (λ n. n * d) (sym (size_under_sign negative y));
  sign = sign_of_size negative x y (some_too x d y e e_above h) (some_too y e x d d_above (sym h));
}

-- a number of another size under the sign of z
pub negative_under : (z : ℤ) (n : ℕ) → (0 < unsigned_abs z → 0 < n) → is_negative z ≡ is_negative (under_sign (is_negative z) n)
negative_under (pos m) n some = not_negative m ∙ sym (not_negative n) ∙ ap (λ b. is_negative (under_sign b n)) (sym (not_negative m))
negative_under (negsuc m) n some = sym (negated n (some (omega arith)))
