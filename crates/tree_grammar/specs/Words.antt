-- The words of a text: letters, digits and `_` that stand together. In a tree text they are the
-- names of the edges, `X` and the numbers.
--   word text == the word at its front, which may be empty
--   words_sum f text == the sum of f over the words that stand after each other byte
--   entry_value text == the number that the digits at the front write; one past 2^31-1 counts as
--       2^31-1
--   count_if b == 1 where b holds, else 0
--   edges_in text == how many of the words are names
--   decorations_in text == the sum of its numbers, which stops at 2^32-1
--   is_unknown ty w == w is a name, and that of no type
--   unknown_from ty i text == the place of the first byte of the first unknown name, where the
--       first byte of text has place i
--   first_unknown ty text == the same where it has place 0
--   edges_of t == the number of edges of a written tree
--   entries_sum f es, multi_sum f x == the sum of f over the entries es; over those of a
--       multiindex, where it is written
--   decorations_of t == the sum of the numbers in its multiindices
--   AreKnown ty t == the names of its edges are names of types
--   behind_comma text == what stands behind a comma at the front
--   next_entry text == what stands behind the word at the front and a comma
--   entries_at k text == the numbers at the front, joined by commas, as k entries; those that are
--       not written are 0
--   values k es == the first k of the entries es as numbers; those that are not there are 0
--   multi_of x == the five entries of a written multiindex; those that are not written are 0
use Rattle.std.specs.Prelude.{◌≡◌, ◌==◌, ℕ, zero, suc, drop, length, ◌+◌, ◌-◌, ◌^◌, Bool, true, false, not, ◌&&◌, if◌then◌else◌, is_some, min, List, [], ◌∷◌, Option, Some, None}
use Rattle.std.specs.List.{take_while}
use Rattle.std.specs.Char.{is_ascii_digit}
use Rattle.std.specs.Str.Parse.{digits_value}
use Rattle.degree_numbers.specs.Name.{is_name, is_name_byte}
use Rattle.degree_numbers.specs.declared.types.Types.{Types}
use Rattle.tree_grammar.specs.Grammar.{Written, root, leaf, planted, number_named}

abbrev pub word : List ℕ → List ℕ
word text = take_while is_name_byte text

abbrev pub words_sum : (List ℕ → ℕ) → List ℕ → ℕ
words_sum f [] = 0
words_sum f (b ∷ bs) = if is_name_byte b then words_sum f bs else f (word bs) + words_sum f bs

unfoldable pub entry_value : List ℕ → ℕ
entry_value text = min (digits_value 10 (take_while is_ascii_digit text)) (2 ^ 31 - 1)

abbrev pub count_if : Bool → ℕ
count_if true = 1
count_if false = 0

abbrev pub edges_in : List ℕ → ℕ
edges_in text = words_sum (λ w. count_if (is_name w)) text

abbrev pub decorations_in : List ℕ → ℕ
decorations_in text = min (words_sum entry_value text) (2 ^ 32 - 1)

abbrev pub is_unknown : Types → List ℕ → Bool
is_unknown ty w = is_name w && not (is_some (number_named ty w))

-- the first byte here has place i
abbrev pub unknown_from : Types → ℕ → List ℕ → Option ℕ
unknown_from ty i [] = None
unknown_from ty i (b ∷ bs) = if not (is_name_byte b) && is_unknown ty (word bs) then Some (i + 1)
    else unknown_from ty (i + 1) bs

abbrev pub first_unknown : Types → List ℕ → Option ℕ
first_unknown ty text = unknown_from ty 0 text

abbrev pub edges_of : Written → ℕ
edges_of (root x) = 0
edges_of (leaf n p t) = 1 + edges_of t
edges_of (planted n p c t) = 1 + edges_of c + edges_of t

abbrev pub entries_sum : (List ℕ → ℕ) → List (List ℕ) → ℕ
entries_sum f [] = 0
entries_sum f (e ∷ es) = f e + entries_sum f es

abbrev pub multi_sum : (List ℕ → ℕ) → Option (List (List ℕ)) → ℕ
multi_sum f None = 0
multi_sum f (Some es) = entries_sum f es

abbrev pub decorations_of : Written → ℕ
decorations_of (root x) = multi_sum entry_value x
decorations_of (leaf n p t) = multi_sum entry_value p + decorations_of t
decorations_of (planted n p c t) = multi_sum entry_value p + decorations_of c + decorations_of t

abbrev pub AreKnown : Types → Written → Type 0
AreKnown ty (root x) = Unit {0}
AreKnown ty (leaf n p t) = (is_some (number_named ty n) ≡ true) × AreKnown ty t
AreKnown ty (planted n p c t) = (is_some (number_named ty n) ≡ true) × AreKnown ty c × AreKnown ty t

abbrev pub behind_comma : List ℕ → List ℕ
behind_comma [] = []
behind_comma (c ∷ cs) = if c == 44 then cs else []

abbrev pub next_entry : List ℕ → List ℕ
next_entry text = behind_comma (drop (length (word text)) text)

abbrev pub entries_at : ℕ → List ℕ → List ℕ
entries_at zero text = []
entries_at (suc k) text = entry_value text ∷ entries_at k (next_entry text)

abbrev pub values : ℕ → List (List ℕ) → List ℕ
values zero es = []
values (suc k) [] = 0 ∷ values k []
values (suc k) (e ∷ es) = entry_value e ∷ values k es

abbrev pub multi_of : Option (List (List ℕ)) → List ℕ
multi_of None = values 5 []
multi_of (Some es) = values 5 es
