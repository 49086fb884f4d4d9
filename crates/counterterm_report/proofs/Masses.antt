-- A mass and its digits.
use Rattle.std.proofs.Common.{◌≡◌, ℕ, zero, suc, ◌<◌, ◌≤◌, ℤ, pos, true, false, List, [], ◌∷◌, Some, None, Option, arith, sym, ap, ◌∙◌, subst, unsigned_abs}
use Rattle.std.specs.Prelude.{IfSome, MatchOption}
use Rattle.std.specs.Str.{bytes_eq}
use Rattle.std.specs.Str.Parse.{digits_value}
use Rattle.exact_sums.specs.Saturating.{overflow, saturated}
use Rattle.numerals.specs.Numerals.{numeral, is_numeral}
use Rattle.numerals.proofs.Magnitudes.{numeral_back, numeral_is}
use Rattle.numerals.proofs.Numerals.{numeral_digit, numeral_digits, numeral_exact}
use Rattle.symbol_polys.proofs.ReadPolys.{no_zero}

pub zero_digits : (ds : List ℕ) → ds ≡ 48 ∷ [] → numeral 0 ≡ ds
zero_digits ds e = let zero_is : numeral 0 ≡ 48 ∷ [] = numeral_digit 0 (omega arith) in zero_is ∙ sym e

pub zero_back : (ds : List ℕ) (n : ℕ) → ds ≡ 48 ∷ [] → numeral n ≡ ds → Some (pos 0) ≡ Some (pos n)
zero_back ds n e h = ap (λ (m : ℕ). Some (pos m)) (sym (numeral_exact n 0 (h ∙ sym (zero_digits ds e))))

pub none_back : (ds : List ℕ) (n : ℕ) → bytes_eq ds (48 ∷ []) ≡ false → is_numeral ds ≡ false → numeral n ≡ ds → ⊥
none_back ds zero e f h = let zero_is : numeral 0 ≡ 48 ∷ [] = numeral_digit 0 (omega arith) in no_zero ds e (sym h ∙ zero_is)
none_back ds (suc n) e f h =
    let is : is_numeral ds ≡ true = subst (λ x. is_numeral x ≡ true) h (numeral_is (suc n) (omega arith)) in
    let both : true ≡ false = sym is ∙ f in
    absurd cc

pub value_is : (ds : List ℕ) (m : ℕ) (r : Option ℤ) → is_numeral ds ≡ true →
    m ≡ saturated (digits_value 10 ds) → MatchOption r (overflow ≤ m) (λ z. z ≡ pos m) →
    IfSome r (λ z. unsigned_abs z < overflow)
    → IfSome r (λ z. (z ≡ pos (unsigned_abs z)) × (numeral (unsigned_abs z) ≡ ds))
value_is ds m None t e v fits = tt
value_is ds m (Some z) t e v fits =
    let size : unsigned_abs z ≡ m = ap unsigned_abs v in
    let digits : unsigned_abs z ≡ digits_value 10 ds = omega (arith, size, e, fits) in
    (v ∙ ap pos (sym size), ap numeral digits ∙ numeral_back ds t)

pub value_back : (ds : List ℕ) (m : ℕ) (r : Option ℤ) (n : ℕ) → m ≡ saturated (digits_value 10 ds) →
    MatchOption r (overflow ≤ m) (λ z. z ≡ pos m) → n < overflow → numeral n ≡ ds → r ≡ Some (pos n)
value_back ds m None n e v lt h =
    let digits : digits_value 10 ds ≡ n = ap (digits_value 10) (sym h) ∙ (numeral_digits n).value in
    absurd (omega (arith, digits, e, v, lt))
value_back ds m (Some z) n e v lt h =
    let digits : digits_value 10 ds ≡ n = ap (digits_value 10) (sym h) ∙ (numeral_digits n).value in
    let size : m ≡ n = omega (arith, digits, e, lt) in
    ap Some (v ∙ ap pos size)
