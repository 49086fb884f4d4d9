-- Written fractions in units of one over a common denominator: what callers need to know the types
-- of a file.
use Rattle.std.proofs.Common.{◌≡◌, ℕ, zero, suc, ◌+◌, ◌-◌, ◌*◌, ◌/◌, ◌%◌, ◌<◌, ◌≤◌, Bool, true, false, pos, ◌<ℤ◌, unsigned_abs, subst, arith, sym, ap, refl, ◌∙◌}
use Rattle.std.proofs.Math.Nat.{div-mul_cancel, div-le_self, div-add-mod, mod-lt, mul-le-mul_left, le_of_mul-le-mul_right}
use Rattle.std.proofs.lemmas.Int.{ints}
use Rattle.degree_numbers.specs.Fraction.{Fraction, IsLowest, IsFractionInRange, Clears, under_sign}
use Rattle.degree_numbers.specs.Written.{in_units_of}
use Rattle.degree_numbers.proofs.Divisors.{gcd_scales}
use Rattle.degree_numbers.proofs.LowestLemmas.{lowest}
use Rattle.degree_numbers.proofs.LowestTerms.{cancelled}

pub size_under_sign : (negative : Bool) (n : ℕ) → unsigned_abs (under_sign negative n) ≡ n
size_under_sign true n = omega (arith, ints)
size_under_sign false n = refl

-- each fraction has a form in lowest terms, with smaller numbers
pub lowest_exists : (n d : ℕ) → 0 < d → (m : ℕ) × (b : ℕ) × IsLowest n d m b × (m ≤ n) × (b ≤ d)
lowest_exists n d above = let g = gcd_scales (suc d) n d (omega arith) in (n / g.0, d / g.0, lowest n d g.0 g.1 above, div-le_self n g.0, div-le_self d g.0)

-- what is in units of one over l has the same lowest terms
same_lowest : (l n d m b s : ℕ) → 0 < d → s * d ≡ l * n → IsLowest n d m b → IsLowest s l m b
same_lowest l n d m b s above whole h = record {
  den_above = h.den_above;
  equal =
      (let one : m * l * d ≡ l * (m * d) = omega arith in
      let two : l * (n * b) ≡ l * n * b = omega arith in
      let three : s * d * b ≡ s * b * d = omega arith in
      cancelled d (m * l) (s * b) above (one ∙ ap (λ x. l * x) h.equal ∙ two ∙ ap (λ x. x * b) (sym whole) ∙ three));
  in_lowest = h.in_lowest;
}

pub in_units_in_range : (l : ℕ) (f : Fraction) → 0 < f.den → Clears l f → f.num ≤ 1000000 → f.den ≤ 1000000 → IsFractionInRange l (in_units_of l f)
in_units_in_range l f above clears num den =
    let low = lowest_exists f.num f.den above in
    let whole : l * f.num / f.den * f.den ≡ l * f.num = div-mul_cancel f.den clears in
    let size : unsigned_abs (in_units_of l f) ≡ l * f.num / f.den = size_under_sign f.negative (l * f.num / f.den) in (
      low.0,
      low.1,
      subst (λ s. IsLowest s l low.0 low.1) (sym size) (same_lowest l f.num f.den low.0 low.1 (l * f.num / f.den) above whole low.2),
      omega (arith, low.3, num),
      omega (arith, low.4, den),
    )

below_times : (s d n l : ℕ) → 0 < d → s * d ≡ l * n → n ≤ 20 * d → s ≤ 20 * l
below_times s d n l above whole h =
    let most : l * n ≤ l * (20 * d) = mul-le-mul_left l h in
    let turned : l * (20 * d) ≡ 20 * l * d = omega arith in
    let le : s * d ≤ 20 * l * d = omega (arith, most, turned, whole) in
    le_of_mul-le-mul_right le above

-- the size in units
pub in_units_size : (l : ℕ) (f : Fraction) → 0 < f.den → Clears l f → f.num ≤ 20 * f.den → unsigned_abs (in_units_of l f) ≤ 20 * l
in_units_size l f above clears small =
    let size = size_under_sign f.negative (l * f.num / f.den) in
    subst (λ s. s ≤ 20 * l) (sym size) (below_times (l * f.num / f.den) f.den f.num l above (div-mul_cancel f.den clears) small)

-- a size that is rounded up to at most 20
pub rounded_up_most : (n d : ℕ) → 0 < d → (n + (d - 1)) / d ≤ 20 → n ≤ 20 * d
rounded_up_most n d above h =
    let split : d * ((n + (d - 1)) / d) + (n + (d - 1)) % d ≡ n + (d - 1) = div-add-mod (n + (d - 1)) d in
    let rest : (n + (d - 1)) % d < d = mod-lt (n + (d - 1)) {m = d} above in
    let most : d * ((n + (d - 1)) / d) ≤ d * 20 = grind (arith, h) in
    omega (arith, split, rest, most)

pub in_units_zero : (l : ℕ) (f : Fraction) → 0 < f.den → Clears l f → f.num ≡ 0 → in_units_of l f ≡ pos 0
in_units_zero l f above clears none =
    let whole : l * f.num / f.den * f.den ≡ 0 * f.den = div-mul_cancel f.den clears ∙ ap (λ n. l * n) none ∙ omega arith in
    ap (under_sign f.negative) (cancelled f.den (l * f.num / f.den) 0 above whole) ∙ zero_under_sign f.negative
  where
    zero_under_sign : (negative : Bool) → under_sign negative 0 ≡ pos 0
    zero_under_sign true = refl
    zero_under_sign false = refl

pub in_units_above : (l : ℕ) (f : Fraction) → 0 < l → Clears l f → 0 < f.num → f.negative ≡ false → pos 0 <ℤ in_units_of l f
in_units_above l f above clears some plus =
    subst (λ negative. pos 0 <ℤ under_sign negative (l * f.num / f.den)) (sym plus)
    (positive (l * f.num / f.den) f.den (l * f.num) (div-mul_cancel f.den clears) (product_above l f.num above some))
  where
    product_above : (x y : ℕ) → 0 < x → 0 < y → 0 < x * y
    product_above x y p q = grind (arith, p, q)

    positive : (s d n : ℕ) → s * d ≡ n → 0 < n → pos 0 <ℤ pos s
    positive zero d n e h = absurd (omega (arith, e, h))
    positive (suc s) d n e h = omega (arith, ints)
