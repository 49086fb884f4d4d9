-- The entries of a written multiindex.
use Rattle.std.proofs.Common.{◌≡◌, ℕ, zero, suc, ◌<◌, ◌≤◌, true, List, [], ◌∷◌, ◌++◌, length, drop, Some, refl, sym, ap, ◌∙◌, arith, append-nil}
use Rattle.std.proofs.lemmas.List.Sums.{take_while-cons}
use Rattle.std.proofs.Math.Seq.{drop-append_seam}
use Rattle.std.specs.Prelude.{min, ◌^◌, ◌-◌}
use Rattle.std.specs.Char.{is_ascii_digit}
use Rattle.std.specs.List.{AllByRecursion, take_while}
use Rattle.std.specs.Str.Parse.{digits_value, AllDigits}
use Rattle.std.specs.Fmt.{decimal}
use Rattle.std.proofs.lemmas.Fmt.{decimal_is_IsNumeral}
use Rattle.std.proofs.lemmas.Str.Parse.{digit_from_value}
use Rattle.text_parts.proofs.Back.{digit_test}
use Rattle.tree_grammar.specs.Grammar.{entries_onto, IsNumber}
use Rattle.tree_grammar.specs.Words.{word, entry_value, behind_comma, next_entry, entries_at, values, multi_of}
use Rattle.tree_grammar.proofs.WordSums.{word_of, number_bytes}
use Rattle.tree_grammar.proofs.Counts.{value_empty}

digits_of : (v s : List ℕ) → AllByRecursion (λ c. is_ascii_digit c ≡ true) v → take_while is_ascii_digit s ≡ [] → take_while is_ascii_digit (v ++ s) ≡ v
digits_of [] s h e = e
digits_of (b ∷ v) s h e = take_while-cons is_ascii_digit b (v ++ s) ∙ rw h.0 (ap (λ (w : List ℕ). b ∷ w) (digits_of v s h.1 e))

digits : (v : List ℕ) → IsNumber v → AllByRecursion (λ c. is_ascii_digit c ≡ true) v
digits [] h = absurd h
digits (c ∷ v) h = h

value_of : (v s : List ℕ) → IsNumber v → take_while is_ascii_digit s ≡ [] → entry_value (v ++ s) ≡ entry_value v
unfolding entry_value
value_of v s h e =
    let one = digits_of v s (digits v h) e in
    let two : take_while is_ascii_digit v ≡ v = ap (take_while is_ascii_digit) (sym (append-nil v)) ∙ digits_of v [] (digits v h) refl in
    ap (λ (ds : List ℕ). min (digits_value 10 ds) (2 ^ 31 - 1)) (one ∙ sym two)

next_of : (v s : List ℕ) → IsNumber v → word s ≡ [] → next_entry (v ++ s) ≡ behind_comma s
next_of v s h e = ap (λ (w : List ℕ). behind_comma (drop (length w) (v ++ s))) (word_of v s (number_bytes v h) e) ∙ ap behind_comma (drop-append_seam v s)

unwritten : (k : ℕ) → entries_at k [] ≡ values k []
unwritten zero = refl
unwritten (suc k) = rw (value_empty, unwritten k) refl

pub entries_values : (k : ℕ) (es : List (List ℕ)) (s : List ℕ) → 0 < length es → length es ≤ k →
    AllByRecursion IsNumber es → entries_at k (entries_onto es s) ≡ values k es
entries_values zero [] s some l h = absurd (omega arith)
entries_values zero (v ∷ es) s some l h = absurd (omega arith)
entries_values (suc k) [] s some l h = absurd (omega arith)
entries_values (suc k) (v ∷ []) s some l h =
    rw (value_of v (41 ∷ s) h.0 refl, next_of v (41 ∷ s) h.0 refl) (ap (λ (m : List ℕ). entry_value v ∷ m) (unwritten k))
entries_values (suc k) (v ∷ w ∷ es) s some l h =
    let rest = entries_onto (w ∷ es) s in
    rw (value_of v (44 ∷ rest) h.0 refl, next_of v (44 ∷ rest) h.0 refl) (ap (λ (m : List ℕ). entry_value v ∷ m) (entries_values k (w ∷ es) s (omega arith) (omega arith) h.1))

pub entries_law : (es : List (List ℕ)) (s : List ℕ) → 0 < length es → length es ≤ 5 →
    AllByRecursion IsNumber es → entries_at 5 (entries_onto es s) ≡ multi_of (Some es)
entries_law es s some l h = entries_values 5 es s some l h

digit_bytes : (ds : List ℕ) → AllDigits 10 ds → AllByRecursion (λ c. is_ascii_digit c ≡ true) ds
digit_bytes [] h = tt
digit_bytes (c ∷ ds) h = (digit_test c (digit_from_value c h.0), digit_bytes ds h.1)

number_of_digits : (ds : List ℕ) → 0 < length ds → AllByRecursion (λ c. is_ascii_digit c ≡ true) ds → IsNumber ds
number_of_digits [] some h = absurd (omega arith)
number_of_digits (c ∷ ds) some h = h

-- a printed number is a number, and has its value
pub decimal_number : (n : ℕ) → n < 2 ^ 31 → IsNumber (decimal n)
decimal_number n fits = let told = decimal_is_IsNumeral n (omega arith) in number_of_digits (decimal n) told.0.0 (digit_bytes (decimal n) told.0.1)

pub decimal_value : (n : ℕ) → n < 2 ^ 31 → entry_value (decimal n) ≡ n
unfolding entry_value
decimal_value n fits =
    let told = decimal_is_IsNumeral n (omega arith) in
    let all : take_while is_ascii_digit (decimal n) ≡ decimal n =
    ap (take_while is_ascii_digit) (sym (append-nil (decimal n))) ∙ digits_of (decimal n) [] (digit_bytes (decimal n) told.0.1) refl in
    rw all (omega (arith, told.1))
