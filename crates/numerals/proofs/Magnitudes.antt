-- The number that digits write.
use Rattle.std.proofs.Common.{◌≡◌, ◌≢◌, ℕ, zero, suc, ◌+◌, ◌-◌, ◌*◌, ◌<◌, true, false, List, [], ◌∷◌, length, take, get_or, refl, ap, sym, ◌∙◌, arith, rules, tests}
use Rattle.std.proofs.lemmas.Bool.{and_parts, not-true}
use Rattle.std.specs.Prelude.{◌==◌, not}
use Rattle.std.specs.Char.{is_ascii_digit}
use Rattle.std.specs.Int.{IsInRange}
use Rattle.std.specs.List.{list_all}
use Rattle.std.specs.Str.Parse.{AllDigits, digits_value}
use Rattle.std.proofs.lemmas.Bool.Decides.{nat_tests}
use Rattle.std.proofs.lemmas.List.{take_more}
use Rattle.std.proofs.lemmas.Str.{digit_value_digit}
use Rattle.std.proofs.lemmas.Str.Parse.{digit_from_value}
use Rattle.std.proofs.lemmas.Int.Digits.{digits_value_push}
use Rattle.exact_sums.specs.Saturating.{saturated}
use Rattle.numerals.specs.Numerals.{numeral, is_numeral}
use Rattle.numerals.proofs.Numerals.{AreDigitsOf, numeral_digit, numeral_digits, numeral_value}

in_range : (c : ℕ) → is_ascii_digit c ≡ true → IsInRange 48 57 c
in_range c h = search (rules, tests)

digit_test : (c : ℕ) → IsInRange 48 57 c → is_ascii_digit c ≡ true
digit_test c h = search (rules, tests)

digits_parts : (ds : List ℕ) → is_numeral ds ≡ true → list_all is_ascii_digit ds ≡ true
digits_parts [] h = absurd cc
digits_parts (c ∷ cs) h = (and_parts (list_all is_ascii_digit (c ∷ cs)) (not (c == 48)) h).0

digit_at : (ds : List ℕ) (i : ℕ) → list_all is_ascii_digit ds ≡ true → i < length ds → is_ascii_digit (get_or ds i 0) ≡ true
digit_at [] i h l = absurd (omega arith)
digit_at (c ∷ cs) zero h l = (and_parts (is_ascii_digit c) (list_all is_ascii_digit cs) h).0
digit_at (c ∷ cs) (suc i) h l = digit_at cs i (and_parts (is_ascii_digit c) (list_all is_ascii_digit cs) h).1 (omega arith)

-- each byte of a numeral is a digit
pub numeral_at : (ds : List ℕ) (i : ℕ) → is_numeral ds ≡ true → i < length ds → IsInRange 48 57 (get_or ds i 0)
numeral_at ds i h l = in_range (get_or ds i 0) (digit_at ds i (digits_parts ds h) l)

-- the number with one more digit
pub magnitude_push : (ds : List ℕ) (i number next : ℕ) → i < length ds →
    IsInRange 48 57 (get_or ds i 0) → number ≡ saturated (digits_value 10 (take i ds)) →
    next ≡ saturated (number * 10 + (get_or ds i 0 - 48)) →
    next ≡ saturated (digits_value 10 (take (i + 1) ds))
magnitude_push ds i number next lt range now step =
    rw (take_more ds i 0 lt, digits_value_push 10 (take i ds) (get_or ds i 0)) (omega (arith, digit_value_digit (get_or ds i 0) range))

all_digits : (ds : List ℕ) → list_all is_ascii_digit ds ≡ true → AllDigits 10 ds
all_digits [] h = tt
all_digits (c ∷ cs) h =
    let t = and_parts (is_ascii_digit c) (list_all is_ascii_digit cs) h in
    let range = in_range c t.0 in
    (omega (arith, range, digit_value_digit c range), all_digits cs t.1)

not_eq : (c : ℕ) → (c == 48) ≡ false → c ≢ 48
not_eq c h e = let one : (c == 48) ≡ true = grind (arith, nat_tests) in let w : true ≡ false = sym one ∙ h in absurd cc

-- digits that do not begin with 0 are what is written of their value
pub numeral_back : (ds : List ℕ) → is_numeral ds ≡ true → numeral (digits_value 10 ds) ≡ ds
numeral_back [] h = absurd cc
numeral_back (c ∷ cs) h =
    let t = and_parts (list_all is_ascii_digit (c ∷ cs)) (not (c == 48)) h in
    numeral_value c cs (all_digits (c ∷ cs) t.0) (not_eq c (not-true (c == 48) t.1))

above_at : (n : ℕ) (c : ℕ) (cs : List ℕ) → n ≡ 0 → numeral n ≡ c ∷ cs → c ≡ 48
above_at n c cs z e =
    let zero_is : numeral 0 ≡ 48 ∷ [] = numeral_digit 0 (omega arith) in
    let w : 48 ∷ [] ≡ c ∷ cs = sym zero_is ∙ ap numeral (sym z) ∙ e in
    cc

value_above : (c : ℕ) (cs : List ℕ) (n : ℕ) → numeral n ≡ c ∷ cs → c ≢ 48 → 0 < n
value_above c cs zero e h = absurd (h (above_at zero c cs refl e))
value_above c cs (suc n) e h = omega arith

pub numeral_above : (ds : List ℕ) → is_numeral ds ≡ true → 0 < digits_value 10 ds
numeral_above [] h = absurd cc
numeral_above (c ∷ cs) h =
    let t = and_parts (list_all is_ascii_digit (c ∷ cs)) (not (c == 48)) h in
    value_above c cs (digits_value 10 (c ∷ cs)) (numeral_back (c ∷ cs) h) (not_eq c (not-true (c == 48) t.1))

list_digits : (ds : List ℕ) → AllDigits 10 ds → list_all is_ascii_digit ds ≡ true
list_digits [] h = refl
list_digits (c ∷ cs) h = rw (digit_test c (digit_from_value c h.0)) (list_digits cs h.1)

numeral_by : (n : ℕ) (ds : List ℕ) → 0 < n → AreDigitsOf n ds → is_numeral ds ≡ true
numeral_by n [] above h = absurd (omega (arith, h.some))
numeral_by n (c ∷ cs) above h =
    let first : 48 < c = h.first above in
    let other : (c == 48) ≡ false = grind (arith, nat_tests) in
    rw (other, list_digits (c ∷ cs) h.digits) refl

-- what is written of a number above 0 is a numeral
pub numeral_is : (n : ℕ) → 0 < n → is_numeral (numeral n) ≡ true
numeral_is n above = numeral_by n (numeral n) above (numeral_digits n)
