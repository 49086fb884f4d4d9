-- The number that 1 to 18 digits write.
use Rattle.std.proofs.Common.{◌≡◌, ℕ, ◌<◌, ◌≤◌, ◌^◌, ◌==◌, nat_lt, min, List, [], ◌∷◌, length, Bool, true, false, Option, Some, None, refl, ap, ◌∙◌, arith, rules, tests}
use Rattle.std.specs.Char.{is_ascii_digit, digit_value}
use Rattle.std.specs.List.{list_all, prefix_len}
use Rattle.std.specs.Int.{IsInRange}
use Rattle.std.specs.Str.Parse.{AllDigits, digits_value}
use Rattle.std.proofs.lemmas.Bool.{false≢true}
use Rattle.std.proofs.lemmas.Bool.Decides.{nat_tests}
use Rattle.std.proofs.Math.Nat.{pow-le-pow_right}
use Rattle.std.proofs.lemmas.Str.{digit_value_digit}
use Rattle.std.proofs.lemmas.Int.Digits.{digits_value-lt}
use Rattle.std.proofs.Math.Seq.{take-length, drop-length}
use Rattle.text_parts.specs.Reading.{number_at, skip, most}
use Rattle.desk_requests.specs.Fields.{is_length}
use Rattle.desk_requests.proofs.ProjectNames.{both}

in_range : (c : ℕ) → is_ascii_digit c ≡ true → IsInRange 48 57 c
in_range c h = search (rules, tests)

prefix_all : (p : ℕ → Bool) (xs : List ℕ) → list_all p xs ≡ true → prefix_len p xs ≡ length xs
prefix_all p [] h = refl
prefix_all p (x ∷ xs) h =
    let parts = both (p x) (list_all p xs) h in
    rw (parts.0, prefix_all p xs parts.1) (omega arith)

small : (c : ℕ) → is_ascii_digit c ≡ true → digit_value c < 10
small c h = let r = in_range c h in omega (arith, digit_value_digit c r, r.0, r.1)

all_digits : (xs : List ℕ) → list_all is_ascii_digit xs ≡ true → AllDigits 10 xs
all_digits [] h = tt
all_digits (x ∷ xs) h =
    let parts = both (is_ascii_digit x) (list_all is_ascii_digit xs) h in
    (small x parts.0, all_digits xs parts.1)

length_parts : (text : List ℕ) → is_length text ≡ true → (list_all is_ascii_digit text ≡ true) × (0 < length text) × (length text ≤ 18)
length_parts [] h = absurd (false≢true h)
length_parts (c ∷ cs) h =
    let parts = both (list_all is_ascii_digit (c ∷ cs)) (nat_lt (length cs) 18) h in
    let few : length cs < 18 = grind (arith, nat_tests, parts.1) in
    (parts.0, omega arith, omega (arith, few))

fits : (text : List ℕ) → is_length text ≡ true → digits_value 10 text < 10 ^ 18
fits text h =
    let parts = length_parts text h in
    let value = digits_value-lt 10 text (all_digits text parts.0) in
    let more : 10 ^ length text ≤ 10 ^ 18 = pow-le-pow_right {n = 10} (omega arith) {i = length text} {j = 18} parts.2 in
    omega (arith, value, more)

pub number_of_digits : (text : List ℕ) → is_length text ≡ true → number_at text ≡ Some (digits_value 10 text, [])
unfolding number_at skip
number_of_digits text h =
    let parts = length_parts text h in
    let all : prefix_len is_ascii_digit text ≡ length text = prefix_all is_ascii_digit text parts.0 in
    let some : (length text == 0) ≡ false = grind (arith, nat_tests, parts.1) in
    let whole : min (digits_value 10 text) most ≡ digits_value 10 text = omega (arith, fits text h) in
    rw (all, some, take-length text, drop-length text, whole) refl

abbrev value_in : Option (ℕ × List ℕ) → ℕ
value_in None = 0
value_in (Some x) = x.0

abbrev is_there : Option (ℕ × List ℕ) → Bool
is_there None = false
is_there (Some x) = true

pub of_some : (text : List ℕ) → is_length text ≡ true → (n : ℕ) (rest : List ℕ) → Some (n, rest) ≡ number_at text → n ≡ digits_value 10 text
of_some text h n rest e = ap value_in (e ∙ number_of_digits text h)

pub of_none : (text : List ℕ) → is_length text ≡ true → None ≡ number_at text → ⊥
of_none text h e = false≢true (ap is_there (e ∙ number_of_digits text h))
