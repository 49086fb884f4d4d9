-- Numbers and their texts.
use Rattle.std.proofs.Common.{◌≡◌, ◌≢◌, ℕ, zero, suc, ◌+◌, ◌<◌, ◌≤◌, ◌==◌, ℤ, pos, negsuc, neg_ℤ, Bool, true, false, List, [], ◌∷◌, Some, None, Option, arith, refl, sym, ap, ◌∙◌, subst, unsigned_abs}
use Rattle.std.specs.Prelude.{IfSome, MatchOption, if◌then◌else◌}
use Rattle.std.specs.List.{AllByRecursion}
use Rattle.std.specs.Char.{digit_value}
use Rattle.std.specs.Str.Parse.{digits_value, AllDigits}
use Rattle.std.proofs.lemmas.Str.Parse.{digit_from_value}
use Rattle.std.proofs.lemmas.Bool.Decides.{nat_tests}
use Rattle.exact_sums.specs.Saturating.{overflow, saturated}
use Rattle.numerals.specs.Numerals.{numeral, is_numeral}
use Rattle.numerals.proofs.Magnitudes.{numeral_back, numeral_is}
use Rattle.numerals.proofs.Numerals.{numeral_digit, numeral_digits, numeral_exact}
use Rattle.character_tables.specs.Reading.{behind_minus, HasNo}
use Rattle.character_tables.specs.Rows.{IsValue}
use Rattle.character_tables.specs.Texts.{number_text}

pub zero_digits : numeral 0 ≡ 48 ∷ []
zero_digits = numeral_digit 0 (omega arith)

-- digits of a number above 0
pub none_back : (ds : List ℕ) (n : ℕ) → is_numeral ds ≡ false → 0 < n → numeral n ≡ ds → ⊥
none_back ds n f some h =
    let is : is_numeral ds ≡ true = subst (λ x. is_numeral x ≡ true) h (numeral_is n some) in
    let both : true ≡ false = sym is ∙ f in
    absurd cc

abbrev pub IsPositiveOf : List ℕ → ℤ → Type 0
IsPositiveOf ds z = (0 < unsigned_abs z) × (z ≡ pos (unsigned_abs z)) × IsValue z × (numeral (unsigned_abs z) ≡ ds)

above_zero : (ds : List ℕ) (n : ℕ) → is_numeral ds ≡ true → numeral n ≡ ds → 0 < n
above_zero ds zero t h =
    let e : ds ≡ 48 ∷ [] = sym h ∙ zero_digits in
    let both : false ≡ true = subst (λ x. is_numeral x ≡ true) e t in
    absurd cc
above_zero ds (suc n) t h = omega arith

pub value_is : (ds : List ℕ) (m : ℕ) (r : Option ℤ) → is_numeral ds ≡ true → m ≡ saturated (digits_value 10 ds) → MatchOption r (overflow ≤ m) (λ z. z ≡ pos m) → IfSome r (λ z.
    unsigned_abs z < overflow)
    → IfSome r (IsPositiveOf ds)
value_is ds m None t e v fits = tt
value_is ds m (Some z) t e v fits =
    let size : unsigned_abs z ≡ m = ap unsigned_abs v in
    let digits : unsigned_abs z ≡ digits_value 10 ds = omega (arith, size, e, fits) in
    let text : numeral (unsigned_abs z) ≡ ds = ap numeral digits ∙ numeral_back ds t in
    (above_zero ds (unsigned_abs z) t text, v ∙ ap pos (sym size), fits, text)

pub value_back : (ds : List ℕ) (m : ℕ) (r : Option ℤ) (n : ℕ) → m ≡ saturated (digits_value 10 ds) →
    MatchOption r (overflow ≤ m) (λ z. z ≡ pos m) → n < overflow → numeral n ≡
    ds → r ≡ Some (pos n)
value_back ds m None n e v lt h =
    let digits : digits_value 10 ds ≡ n = ap (digits_value 10) (sym h) ∙ (numeral_digits n).value in
    absurd (omega (arith, digits, e, v, lt))
value_back ds m (Some z) n e v lt h =
    let digits : digits_value 10 ds ≡ n = ap (digits_value 10) (sym h) ∙ (numeral_digits n).value in
    let size : m ≡ n = omega (arith, digits, e, lt) in
    ap Some (v ∙ ap pos size)

-- of a number of at least 0
pub zero_back : (ds : List ℕ) (n : ℕ) → ds ≡ 48 ∷ [] → numeral n ≡ ds → Some (pos 0) ≡ Some (pos n)
zero_back ds n e h = ap (λ (m : ℕ). Some (pos m)) (sym (numeral_exact n 0 (h ∙ e ∙ sym zero_digits)))

pub some_back : (ds : List ℕ) (n : ℕ) → ds ≢ 48 ∷ [] → numeral n ≡ ds → 0 < n
some_back ds zero e h = absurd (e (sym h ∙ zero_digits))
some_back ds (suc n) e h = omega arith

-- digits are neither `-` nor a space
no_digit : (c : ℕ) → digit_value c < 10 → (c ≢ 45) × (c ≢ 32)
no_digit c h = let d = digit_from_value c h in (λ e. omega (arith, d.0, e), λ e. omega (arith, d.0, e))

digits_have_no_space : (ds : List ℕ) → AllDigits 10 ds → HasNo 32 ds
digits_have_no_space [] h = tt
digits_have_no_space (d ∷ ds) h = ((no_digit d h.0).1, digits_have_no_space ds h.1)

no_minus : (ds cs : List ℕ) → AllDigits 10 ds → ds ≡ 45 ∷ cs → ⊥
no_minus [] cs h e = absurd cc
no_minus (d ∷ ds) cs h e = (no_digit d h.0).0 (let same = e in cc)

pub numeral_no_minus : (n : ℕ) (cs : List ℕ) → numeral n ≡ 45 ∷ cs → ⊥
numeral_no_minus n cs e = no_minus (numeral n) cs (numeral_digits n).digits e

pub number_no_space : (z : ℤ) → HasNo 32 (number_text z)
number_no_space (pos n) = digits_have_no_space (numeral n) (numeral_digits n).digits
number_no_space (negsuc n) = ((λ e. omega (arith, e)), digits_have_no_space (numeral (suc n)) (numeral_digits (suc n)).digits)

-- of a number below 0
pub negative_is : (ds : List ℕ) (z : ℤ) → IsPositiveOf ds z → IsValue (neg_ℤ z) × (number_text (neg_ℤ z) ≡ 45 ∷ ds)
negative_is ds (pos zero) h = absurd (omega (arith, h.0))
negative_is ds (pos (suc n)) h = (h.2, ap (λ (cs : List ℕ). 45 ∷ cs) h.3)
negative_is ds (negsuc n) h = absurd (let e = h.1 in cc)

tail_is : (c : ℕ) (xs ys : List ℕ) → c ∷ xs ≡ c ∷ ys → xs ≡ ys
tail_is c xs ys e = cc

-- what is read behind a `-`
pub negative_back : (ds : List ℕ) (r : Option ℤ) → ((n : ℕ) → 0 < n → n < overflow → numeral n ≡ ds → r ≡ Some (pos n)) →
    (z : ℤ) → IsValue z → number_text z ≡ 45 ∷ ds → (n : ℕ) × (z ≡ negsuc n) × (r ≡ Some (pos (suc n)))
negative_back ds r back (pos n) v e = absurd (numeral_no_minus n ds e)
negative_back ds r back (negsuc n) v e = (n, refl, back (suc n) (omega arith) v (tail_is 45 (numeral (suc n)) ds e))

-- and of a text without
pub whole_is : (text : List ℕ) (z : ℤ) → z ≡ pos (unsigned_abs z) → numeral (unsigned_abs z) ≡ text → number_text z ≡ text
whole_is text (pos n) s e = e
whole_is text (negsuc n) s e = absurd cc

pub whole_back : (text : List ℕ) (r : Option ℤ) → behind_minus text ≡ None → ((n : ℕ) → n < overflow → numeral n ≡ text → r ≡ Some (pos n)) →
    (z : ℤ) → IsValue z → number_text z ≡ text → r ≡ Some z
whole_back text r none back (pos n) v e = back n v e
whole_back text r none back (negsuc n) v e =
    let minus : behind_minus (45 ∷ numeral (suc n)) ≡ None = subst (λ (t : List ℕ). behind_minus t ≡ None) (sym e) none in
    absurd cc

pub minus_is : (text ds : List ℕ) → behind_minus text ≡ Some ds → text ≡ 45 ∷ ds
minus_is [] ds e = absurd cc
minus_is (c ∷ cs) ds e =
    (elim (c == 45) as (λ b. (c == 45) ≡ b → (if b then Some cs else None) ≡ Some ds → c ∷ cs ≡ 45 ∷ ds) [
      | true ↦ λ t h. let same : c ≡ 45 = grind (arith, nat_tests) in cc
      | false ↦ λ f h. absurd cc
    ]) refl e

-- two numbers with one text
pub number_exact : (y z : ℤ) → number_text y ≡ number_text z → y ≡ z
number_exact (pos m) (pos n) e = ap pos (numeral_exact m n e)
number_exact (pos m) (negsuc n) e = absurd (numeral_no_minus m (numeral (suc n)) e)
number_exact (negsuc m) (pos n) e = absurd (numeral_no_minus n (numeral (suc m)) (sym e))
number_exact (negsuc m) (negsuc n) e =
    let same : suc m ≡ suc n = numeral_exact (suc m) (suc n) (tail_is 45 (numeral (suc m)) (numeral (suc n)) e) in
    let less : m ≡ n = omega (arith, same) in
    ap negsuc less

abbrev pub Read : Option ℤ → List ℕ → Type 0
Read r text = (z : ℤ) → IsValue z → number_text z ≡ text → r ≡ Some z

pub negative_read : (ds : List ℕ) (y z : ℤ) → ((n : ℕ) → 0 < n → n < overflow → numeral n ≡ ds → Some y ≡ Some (pos n)) →
    IsValue z → number_text z ≡ 45 ∷ ds → Some (neg_ℤ y) ≡ Some z
negative_read ds y z back v e =
    let found = negative_back ds (Some y) back z v e in
    let same : y ≡ pos (suc found.0) = (let h = found.2 in cc) in
    ap (λ (x : ℤ). Some (neg_ℤ x)) same ∙ ap (λ (x : ℤ). Some x) (sym found.1)

pub none_negative : (ds : List ℕ) → ((n : ℕ) → 0 < n → n < overflow → numeral n ≡ ds → None ≡ Some (pos n)) → (z : ℤ) → IsValue z → number_text z ≡ 45 ∷ ds → ⊥
none_negative ds back z v e =
    let found = negative_back ds None back z v e in
    let no : None ≡ Some (pos (suc found.0)) = found.2 in
    cc
