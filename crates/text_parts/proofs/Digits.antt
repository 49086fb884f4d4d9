-- Digits at the front of a text.
use Rattle.std.proofs.Common.{◌≡◌, ℕ, ◌+◌, ◌-◌, ◌*◌, ◌<◌, min, List, length, take, get_or, true, arith, rules, tests}
use Rattle.std.specs.Char.{is_ascii_digit}
use Rattle.std.specs.Int.{IsInRange}
use Rattle.std.specs.List.{prefix_len, AllPass}
use Rattle.std.specs.Str.Parse.{digits_value}
use Rattle.std.proofs.lemmas.List.{take_more, get_or-take}
use Rattle.std.proofs.lemmas.List.Folds.{length-prefix_len}
use Rattle.std.proofs.lemmas.List.Sums.{prefix_len_passes}
use Rattle.std.proofs.lemmas.Str.{digit_value_digit}
use Rattle.std.proofs.lemmas.Int.Digits.{digits_value_push}
use Rattle.text_parts.specs.Reading.{most}

pub in_range : (c : ℕ) → is_ascii_digit c ≡ true → IsInRange 48 57 c
in_range c h = search (rules, tests)

-- the number with one more digit
pub value_push : (ds : List ℕ) (i number next : ℕ) → i < length ds →
    is_ascii_digit (get_or ds i 0) ≡ true → number ≡ min (digits_value 10 (take i ds)) most →
    next ≡ min (number * 10 + (get_or ds i 0 - 48)) most →
    next ≡ min (digits_value 10 (take (i + 1) ds)) most
value_push ds i number next lt digit now step =
    rw (take_more ds i 0 lt, digits_value_push 10 (take i ds) (get_or ds i 0)) (omega (arith, digit_value_digit (get_or ds i 0) (in_range _ digit)))

-- the digits at the front are digits
pub digits_pass : (text : List ℕ) → AllPass is_ascii_digit (take (prefix_len is_ascii_digit text) text)
digits_pass text k d lt =
    let below : k < prefix_len is_ascii_digit text = omega (arith, length-prefix_len is_ascii_digit text) in
    rw (get_or-take (prefix_len is_ascii_digit text) text k d below) (prefix_len_passes is_ascii_digit text k d below)
