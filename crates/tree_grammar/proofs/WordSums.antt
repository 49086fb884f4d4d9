-- Sums over the words of a written tree's text.
use Rattle.std.proofs.Common.{◌≡◌, ℕ, ◌+◌, ◌<◌, Bool, true, false, List, [], ◌∷◌, ◌++◌, length, Option, Some, None, refl, ap, ◌∙◌, arith}
use Rattle.std.proofs.lemmas.List.Sums.{take_while-cons}
use Rattle.std.specs.Prelude.{◌||◌}
use Rattle.std.specs.Char.{is_ascii_digit, is_ascii_alphabetic}
use Rattle.std.specs.List.{AllByRecursion}
use Rattle.degree_numbers.specs.Name.{is_name, is_name_byte}
use Rattle.degree_numbers.specs.declared.types.Types.{Types}
use Rattle.tree_grammar.specs.Grammar.{Written, root, leaf, planted, entries_onto, quoted_onto, written_root, inside, starred_onto, written_text, IsNumber, IsMulti, IsGrammatical}
use Rattle.tree_grammar.specs.Words.{word, words_sum, entries_sum, multi_sum}
use Rattle.tree_grammar.proofs.Names.{name_parts}

-- letters, digits and `_`
abbrev pub AreNameBytes : List ℕ → Type 0
AreNameBytes v = AllByRecursion (λ c. is_name_byte c ≡ true) v

or_right : (a b : Bool) → b ≡ true → (a || b) ≡ true
or_right true b h = refl
or_right false b h = h

or_left : (a b : Bool) → a ≡ true → (a || b) ≡ true
or_left true b h = refl
or_left false b h = absurd cc

digit_byte : (c : ℕ) → is_ascii_digit c ≡ true → is_name_byte c ≡ true
digit_byte c h = or_right (is_ascii_alphabetic c) _ (or_left (is_ascii_digit c) _ h)

digit_bytes : (v : List ℕ) → AllByRecursion (λ c. is_ascii_digit c ≡ true) v → AreNameBytes v
digit_bytes [] h = tt
digit_bytes (c ∷ v) h = (digit_byte c h.0, digit_bytes v h.1)

pub number_bytes : (v : List ℕ) → IsNumber v → AreNameBytes v
number_bytes [] h = absurd h
number_bytes (c ∷ v) h = (digit_byte c h.0, digit_bytes v h.1)

pub name_bytes : (v : List ℕ) → is_name v ≡ true → AreNameBytes v
name_bytes [] h = tt
name_bytes (c ∷ v) h = let p = name_parts (c ∷ v) h in (or_left (is_ascii_alphabetic c) _ p.0, p.1)

-- a word ends where no name byte follows
pub word_of : (v s : List ℕ) → AreNameBytes v → word s ≡ [] → word (v ++ s) ≡ v
word_of [] s h e = e
word_of (b ∷ v) s h e = take_while-cons is_name_byte b (v ++ s) ∙ rw h.0 (ap (λ (w : List ℕ). b ∷ w) (word_of v s h.1 e))

pub word_quoted : (p : Option (List (List ℕ))) (s : List ℕ) → word s ≡ [] → word (quoted_onto p s) ≡ []
word_quoted None s h = h
word_quoted (Some es) s h = refl

pub word_starred : (t : Written) (s : List ℕ) → word s ≡ [] → word (starred_onto t s) ≡ []
word_starred (root x) s h = h
word_starred (leaf n p t) s h = refl
word_starred (planted n p c t) s h = refl

-- the sum over the names of the edges and the numbers
abbrev pub written_sum : (List ℕ → ℕ) → Written → ℕ
written_sum f (root x) = multi_sum f x
written_sum f (leaf n p t) = f n + multi_sum f p + written_sum f t
written_sum f (planted n p c t) = f n + multi_sum f p + written_sum f c + written_sum f t

module _ (f : List ℕ → ℕ) (none : f [] ≡ 0) (x_none : f (88 ∷ []) ≡ 0) where
  sum_skip : (v s : List ℕ) → AreNameBytes v → words_sum f (v ++ s) ≡ words_sum f s
  sum_skip [] s h = refl
  sum_skip (b ∷ v) s h = rw h.0 (sum_skip v s h.1)

  sum_mark : (b : ℕ) (v s : List ℕ) → is_name_byte b ≡ false → AreNameBytes v → word s ≡ [] → words_sum f (b ∷ (v ++ s)) ≡ f v + words_sum f s
  sum_mark b v s m h e = rw (m, word_of v s h e, sum_skip v s h) refl

  sum_bare : (b : ℕ) (s : List ℕ) → is_name_byte b ≡ false → word s ≡ [] → words_sum f (b ∷ s) ≡ words_sum f s
  sum_bare b s m e = rw (m, e, none) (omega arith)

  sum_entries : (b : ℕ) (es : List (List ℕ)) (s : List ℕ) → is_name_byte b ≡ false → 0 < length es → AllByRecursion IsNumber es → word s ≡ [] →
      words_sum f (b ∷ entries_onto es s) ≡ entries_sum f es + words_sum f s
  sum_entries b [] s m l h e = absurd (omega arith)
  sum_entries b (v ∷ []) s m l h e =
      let one = sum_mark b v (41 ∷ s) m (number_bytes v h.0) refl in
      let two = sum_bare 41 s refl e in
      omega (arith, one, two)
  sum_entries b (v ∷ w ∷ es) s m l h e =
      let one = sum_mark b v (44 ∷ entries_onto (w ∷ es) s) m (number_bytes v h.0) refl in
      let two = sum_entries 44 (w ∷ es) s refl (omega arith) h.1 e in
      omega (arith, one, two)

  module _ (ty : Types) (dims : 0 < ty.dims) where
    sum_multi : (b : ℕ) (es : List (List ℕ)) (s : List ℕ) → is_name_byte b ≡ false → IsMulti ty.dims (Some es) → word s ≡ [] →
        words_sum f (b ∷ entries_onto es s) ≡ entries_sum f es + words_sum f s
    sum_multi b es s m h e = sum_entries b es s m (omega (arith, dims, h.0)) h.1 e

    sum_quoted : (p : Option (List (List ℕ))) (s : List ℕ) → IsMulti ty.dims p → word s ≡ [] → words_sum f (quoted_onto p s) ≡ multi_sum f p + words_sum f s
    sum_quoted None s h e = omega arith
    sum_quoted (Some es) s h e = sum_bare 39 (40 ∷ entries_onto es s) refl refl ∙ sum_multi 40 es s refl h e

    sum_inside : (x : Option (List (List ℕ))) (c : Written) (s : List ℕ) → IsMulti ty.dims x → word s ≡ [] →
        words_sum f (91 ∷ inside x c (starred_onto c s)) ≡ multi_sum f x + words_sum f (starred_onto c s)
    sum_inside None (root y) s h e = let one = sum_bare 91 s refl e in omega (arith, one)
    sum_inside None (leaf n p t) s h e = omega arith
    sum_inside None (planted n p c t) s h e = omega arith
    sum_inside (Some es) c s h e =
        let one = sum_mark 91 (88 ∷ []) (40 ∷ entries_onto es (starred_onto c s)) refl (refl, tt) refl in
        let two = sum_multi 40 es (starred_onto c s) refl h (word_starred c s e) in
        omega (arith, one, two, x_none)

    pub root_multi : (t : Written) → IsGrammatical ty t → IsMulti ty.dims (written_root t)
    root_multi (root x) h = h
    root_multi (leaf n p t) h = root_multi t h.3
    root_multi (planted n p c t) h = root_multi t h.4

    sum_edge : (n : List ℕ) (p : Option (List (List ℕ))) (s : List ℕ) → is_name n ≡ true → IsMulti ty.dims p → word s ≡ [] →
        words_sum f (42 ∷ (n ++ quoted_onto p s)) ≡ f n + multi_sum f p + words_sum f s
    sum_edge n p s h q e =
        let one = sum_mark 42 n (quoted_onto p s) refl (name_bytes n h) (word_quoted p s e) in
        let two = sum_quoted p s q e in
        omega (arith, one, two)

    sum_starred : (t : Written) (s : List ℕ) → IsGrammatical ty t → word s ≡ [] →
        words_sum f (starred_onto t s) + multi_sum f (written_root t) ≡ written_sum f t + words_sum f s
    sum_starred (root x) s h e = omega arith
    sum_starred (leaf n p t) s h e =
        let one = sum_edge n p (starred_onto t s) h.0 h.1 (word_starred t s e) in
        let two = sum_starred t s h.3 e in
        omega (arith, one, two)
    sum_starred (planted n p c t) s h e =
        let rest = starred_onto t s in
        let sub = starred_onto c (93 ∷ rest) in
        let one = sum_edge n p (91 ∷ inside (written_root c) c sub) h.0 h.1 refl in
        let two = sum_inside (written_root c) c (93 ∷ rest) (root_multi c h.3) refl in
        let three = sum_starred c (93 ∷ rest) h.3 refl in
        let four = sum_bare 93 rest refl (word_starred t s e) in
        let five = sum_starred t s h.4 e in
        omega (arith, one, two, three, four, five)

    pub sum_written : (t : Written) → IsGrammatical ty t → words_sum f (written_text t) ≡ written_sum f t
    sum_written t h =
        let one = sum_inside (written_root t) t (93 ∷ []) (root_multi t h) refl in
        let two = sum_starred t (93 ∷ []) h refl in
        let three = sum_bare 93 [] refl refl in
        omega (arith, one, two, three)
