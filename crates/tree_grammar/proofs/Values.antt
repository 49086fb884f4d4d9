-- The number that digits write.
use Rattle.std.proofs.Common.{◌≡◌, ℕ, ◌-◌, ◌^◌, min, Bool, true, false, List, Some, None, refl, arith, take}
use Rattle.std.proofs.lemmas.Bool.Decides.{nat_tests}
use Rattle.std.specs.Prelude.{◌==◌, drop}
use Rattle.std.specs.Str.Parse.{digits_value}
use Rattle.text_parts.specs.Reading.{number_at, digits_len, most, skip}
use Rattle.tree_grammar.specs.Words.{entry_value}

some_at : (text : List ℕ) (n : ℕ × List ℕ) (b : Bool) → (digits_len text == 0) ≡ b → number_at text ≡ Some n → min n.0 (2 ^ 31 - 1) ≡ entry_value text
unfolding number_at entry_value
some_at text n true e h = let w : None ≡ Some n = rw e at h in absurd cc
some_at text n false e h =
    let w : Some (min (digits_value 10 (take (digits_len text) text)) most, skip (drop (digits_len text) text)) ≡ Some n = rw e at h in
    let v : min (digits_value 10 (take (digits_len text) text)) most ≡ n.0 = cc in
    omega (arith, v)

pub value_some : (text : List ℕ) (n : ℕ × List ℕ) → number_at text ≡ Some n → min n.0 (2 ^ 31 - 1) ≡ entry_value text
value_some text n h = some_at text n (digits_len text == 0) refl h

none_at : (text : List ℕ) (b : Bool) → (digits_len text == 0) ≡ b → number_at text ≡ None → 0 ≡ entry_value text
unfolding number_at entry_value
none_at text true e h =
    let none : digits_len text ≡ 0 = grind (arith, nat_tests) in
    rw none refl
none_at text false e h =
    let w : Some (min (digits_value 10 (take (digits_len text) text)) most, skip (drop (digits_len text) text)) ≡ None = rw e at h in
    absurd cc

pub value_none : (text : List ℕ) → number_at text ≡ None → 0 ≡ entry_value text
value_none text h = none_at text (digits_len text == 0) refl h
