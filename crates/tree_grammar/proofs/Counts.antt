-- The edges, the decorations and the unknown names of a written tree's text.
use Rattle.std.proofs.Common.{◌≡◌, ℕ, ◌+◌, ◌<◌, ◌-◌, ◌^◌, Bool, true, false, List, [], ◌∷◌, min, Option, Some, None, refl, sym, ap, ◌∙◌, arith}
use Rattle.std.proofs.lemmas.Bool.Decides.{nat_tests}
use Rattle.std.specs.Prelude.{is_some, ◌↔◌}
use Rattle.std.specs.Char.{is_ascii_digit, is_ascii_alphabetic}
use Rattle.std.specs.List.{AllByRecursion}
use Rattle.degree_numbers.specs.Name.{is_name, is_name_byte}
use Rattle.degree_numbers.specs.declared.types.Types.{Types}
use Rattle.tree_grammar.specs.Grammar.{Written, root, leaf, planted, written_text, IsNumber, IsMulti, IsGrammatical, number_named}
use Rattle.tree_grammar.specs.Words.{word, words_sum, entries_sum, multi_sum, entry_value, count_if, is_unknown, unknown_from, first_unknown, edges_in, decorations_in, edges_of, decorations_of, AreKnown}
use Rattle.tree_grammar.proofs.Names.{name_parts}
use Rattle.tree_grammar.proofs.WordSums.{written_sum, sum_written}

digit_no_letter : (c : ℕ) → is_ascii_digit c ≡ true → is_ascii_alphabetic c ≡ false
digit_no_letter c h = grind (arith, nat_tests)

number_no_name : (e : List ℕ) → IsNumber e → is_name e ≡ false
number_no_name [] h = absurd h
number_no_name (c ∷ e) h = rw (digit_no_letter c h.0) refl

name_no_digit : (c : ℕ) → is_ascii_alphabetic c ≡ true → is_ascii_digit c ≡ false
name_no_digit c h = grind (arith, nat_tests)

-- no number is a name
module _ (f : List ℕ → ℕ) (zero_else : (w : List ℕ) → is_name w ≡ false → f w ≡ 0) where
  entries_none : (es : List (List ℕ)) → AllByRecursion IsNumber es → entries_sum f es ≡ 0
  entries_none [] h = refl
  entries_none (e ∷ es) h = let one = zero_else e (number_no_name e h.0) in let two = entries_none es h.1 in omega (arith, one, two)

  multi_none : (dims : ℕ) (x : Option (List (List ℕ))) → IsMulti dims x → multi_sum f x ≡ 0
  multi_none dims None h = refl
  multi_none dims (Some es) h = entries_none es h.1

-- edges
edge_else : (w : List ℕ) → is_name w ≡ false → count_if (is_name w) ≡ 0
edge_else w h = rw h refl

edges_written : (ty : Types) (t : Written) → IsGrammatical ty t → written_sum (λ w. count_if (is_name w)) t ≡ edges_of t
edges_written ty (root x) h = multi_none (λ w. count_if (is_name w)) edge_else ty.dims x h
edges_written ty (leaf n p t) h =
    let one = multi_none (λ w. count_if (is_name w)) edge_else ty.dims p h.1 in
    let two = edges_written ty t h.3 in
    rw h.0 (omega (arith, one, two))
edges_written ty (planted n p c t) h =
    let one = multi_none (λ w. count_if (is_name w)) edge_else ty.dims p h.1 in
    let two = edges_written ty c h.3 in
    let three = edges_written ty t h.4 in
    rw h.0 (omega (arith, one, two, three))

pub edges_law : (ty : Types) (t : Written) → 0 < ty.dims → IsGrammatical ty t → edges_in (written_text t) ≡ edges_of t
edges_law ty t d h = sum_written (λ w. count_if (is_name w)) refl refl ty d t h ∙ edges_written ty t h

-- decorations
pub value_empty : entry_value [] ≡ 0
unfolding entry_value
value_empty = refl

value_else : (c : ℕ) (w : List ℕ) → is_ascii_digit c ≡ false → entry_value (c ∷ w) ≡ 0
unfolding entry_value
value_else c w h = rw h refl

name_value : (n : List ℕ) → is_name n ≡ true → entry_value n ≡ 0
name_value [] h = absurd cc
name_value (c ∷ n) h = value_else c n (name_no_digit c (name_parts (c ∷ n) h).0)

decorations_written : (ty : Types) (t : Written) → IsGrammatical ty t → written_sum entry_value t ≡ decorations_of t
decorations_written ty (root x) h = refl
decorations_written ty (leaf n p t) h =
    let one = name_value n h.0 in
    let two = decorations_written ty t h.3 in
    omega (arith, one, two)
decorations_written ty (planted n p c t) h =
    let one = name_value n h.0 in
    let two = decorations_written ty c h.3 in
    let three = decorations_written ty t h.4 in
    omega (arith, one, two, three)

pub decorations_law : (ty : Types) (t : Written) → 0 < ty.dims → IsGrammatical ty t → decorations_in (written_text t) ≡ min (decorations_of t) (2 ^ 32 - 1)
decorations_law ty t d h = ap (λ n. min n (2 ^ 32 - 1)) (sum_written entry_value value_empty (value_else 88 [] refl) ty d t h ∙ decorations_written ty t h)

-- unknown names
module _ (ty : Types) where
  unknown_else : (w : List ℕ) → is_name w ≡ false → count_if (is_unknown ty w) ≡ 0
  unknown_else w h = rw h refl

  known_name : (n : List ℕ) → is_name n ≡ true → is_some (number_named ty n) ≡ true → count_if (is_unknown ty n) ≡ 0
  known_name n h k = rw (h, k) refl

  name_known : (n : List ℕ) (b : Bool) → is_name n ≡ true → is_some (number_named ty n) ≡ b →
      count_if (is_unknown ty n) ≡ 0 → is_some (number_named ty n) ≡ true
  name_known n true h e k = e
  name_known n false h e k = let w : 1 ≡ 0 = rw (h, e) at k in absurd (omega (arith, w))

  known_none : (t : Written) → IsGrammatical ty t → AreKnown ty t → written_sum (λ w. count_if (is_unknown ty w)) t ≡ 0
  known_none (root x) h k = multi_none (λ w. count_if (is_unknown ty w)) unknown_else ty.dims x h
  known_none (leaf n p t) h k =
      let one = multi_none (λ w. count_if (is_unknown ty w)) unknown_else ty.dims p h.1 in
      let two = known_name n h.0 k.0 in
      let three = known_none t h.3 k.1 in
      omega (arith, one, two, three)
  known_none (planted n p c t) h k =
      let one = multi_none (λ w. count_if (is_unknown ty w)) unknown_else ty.dims p h.1 in
      let two = known_name n h.0 k.0 in
      let three = known_none c h.3 k.1 in
      let four = known_none t h.4 k.2 in
      omega (arith, one, two, three, four)

  none_known : (t : Written) → IsGrammatical ty t → written_sum (λ w. count_if (is_unknown ty w)) t ≡ 0 → AreKnown ty t
  none_known (root x) h k = tt
  none_known (leaf n p t) h k = (name_known n (is_some (number_named ty n)) h.0 refl (omega (arith, k)), none_known t h.3 (omega (arith, k)))
  none_known (planted n p c t) h k =
      (name_known n (is_some (number_named ty n)) h.0 refl (omega (arith, k)), none_known c h.3 (omega (arith, k)), none_known t h.4 (omega (arith, k)))

  none-from-at : (i b : ℕ) (bs : List ℕ) (x y : Bool) → is_name_byte b ≡ x → is_unknown ty (word bs) ≡ y → unknown_from ty i (b ∷ bs) ≡ None →
      ((j : ℕ) → unknown_from ty j bs ≡ None → words_sum (λ w. count_if (is_unknown ty w)) bs ≡ 0) → words_sum (λ w. count_if (is_unknown ty w)) (b ∷ bs) ≡ 0
  none-from-at i b bs true y hx hy h ih = rw hx (ih (i + 1) (rw hx at h))
  none-from-at i b bs false true hx hy h ih = let w : Some (i + 1) ≡ None = rw (hx, hy) at h in absurd cc
  none-from-at i b bs false false hx hy h ih = let rest = ih (i + 1) (rw (hx, hy) at h) in rw (hx, hy) (omega (arith, rest))

  none_from : (text : List ℕ) (i : ℕ) → unknown_from ty i text ≡ None → words_sum (λ w. count_if (is_unknown ty w)) text ≡ 0
  none_from [] i h = refl
  none_from (b ∷ bs) i h = none-from-at i b bs (is_name_byte b) (is_unknown ty (word bs)) refl refl h (none_from bs)

  from-none-at : (i b : ℕ) (bs : List ℕ) (x y : Bool) → is_name_byte b ≡ x →
      is_unknown ty (word bs) ≡ y → words_sum (λ w. count_if (is_unknown ty w)) (b ∷ bs) ≡ 0 →
      ((j : ℕ) → words_sum (λ w. count_if (is_unknown ty w)) bs ≡ 0 → unknown_from ty j bs ≡ None) → unknown_from ty i (b ∷ bs) ≡ None
  from-none-at i b bs true y hx hy h ih = rw hx (ih (i + 1) (rw hx at h))
  from-none-at i b bs false true hx hy h ih =
      let w : 1 + words_sum (λ w. count_if (is_unknown ty w)) bs ≡ 0 = rw (hx, hy) at h in absurd (omega (arith, w))
  from-none-at i b bs false false hx hy h ih =
      let w : 0 + words_sum (λ w. count_if (is_unknown ty w)) bs ≡ 0 = rw (hx, hy) at h in
      rw (hx, hy) (ih (i + 1) (omega (arith, w)))

  from_none : (text : List ℕ) (i : ℕ) → words_sum (λ w. count_if (is_unknown ty w)) text ≡ 0 → unknown_from ty i text ≡ None
  from_none [] i h = refl
  from_none (b ∷ bs) i h = from-none-at i b bs (is_name_byte b) (is_unknown ty (word bs)) refl refl h (λ j k. from_none bs j k)

  pub known_law : (t : Written) → 0 < ty.dims → IsGrammatical ty t → first_unknown ty (written_text t) ≡ None ↔ AreKnown ty t
  known_law t d h =
      let sum = sum_written (λ w. count_if (is_unknown ty w)) refl refl ty d t h in
      (λ none. none_known t h (sym sum ∙ none_from (written_text t) 0 none), λ known. from_none (written_text t) 0 (sum ∙ known_none t h known))
