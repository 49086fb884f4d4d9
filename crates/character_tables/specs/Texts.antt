-- Texts of tables.
--   number_text z == the decimal digits of z, behind a `-` where it is below 0
--   row_text ty r == the text of a row: that of its tree, a space, that of its value
--   IsTableTree ty t == t is a canonical tree over the types, not the empty one, with at most 24
--       edges (`MOST_EDGES`) and a decoration sum of at most 64 (`MOST_LISTED_DECORATIONS`)
--   IsRow ty r == r is a row of such a tree, its absolute value at most 2^127-1
--   IsTable ty rs == rs are such rows, in strictly ascending tree order
--   without_empty_end ps == the parts ps without the last, where that is empty
--   lines_of text == the lines of a text: its parts between the places of LF, without the last
--       where that is empty
--   HasLines ty ls rs == rs is a table, and ls are the texts of its rows
--   IsTableText ty text rs == the lines of text are those of the table rs
--   IsFirstFault ty ls n == the first n - 1 of the lines ls are those of a table, the first n are
--       those of none
--   AreRefused ty ls e, IsTableRefused ty text e == e names the first fault of the lines ls, of the
--       lines of text, or memory is wanted
use Rattle.std.specs.Prelude.{◌≡◌, ℕ, ℤ, pos, negsuc, suc, ◌+◌, ◌-◌, ◌==◌, ◌≤◌, Bool, false, cond, List, [], ◌∷◌, ◌++◌, map, take, length, slice_index_or, ⊤}
use Rattle.std.specs.List.{AllByRecursion, slice_split}
use Rattle.std.specs.List.Sorted.{IsStrictlySortedBy}
use Rattle.limits.specs.declared.TheConstants.{MOST_EDGES, MOST_LISTED_DECORATIONS}
use Rattle.degree_numbers.specs.declared.types.Types.{Types}
use Rattle.numerals.specs.Numerals.{numeral}
use Rattle.plain_trees.specs.Plain.{Plain, edge_count_of, decoration_sum_of, tree_order}
use Rattle.plain_trees.specs.Canon.{IsCanonical}
use Rattle.plain_trees.specs.Degree.{HasTypes, is_empty_tree}
use Rattle.plain_trees.specs.Text.{tree_text}
use Rattle.character_tables.specs.declared.error.CharacterError.{CharacterError}
use Rattle.character_tables.specs.declared.error.CharacterError.TheVariants.{TableRefused, CoefficientTooLarge, Missing, Memory}
use Rattle.character_tables.specs.Rows.{Row, trees_in, IsValue}

abbrev pub number_text : ℤ → List ℕ
number_text (pos n) = numeral n
number_text (negsuc n) = 45 ∷ numeral (suc n)

abbrev pub row_text : Types → Row → List ℕ
row_text ty r = tree_text ty r.0 ++ 32 ∷ number_text r.1

pub record IsTableTree (ty : Types) (t : Plain) : Type 0 where
  pub types : HasTypes ty t
  pub canonical : IsCanonical t
  pub edges : edge_count_of t ≤ MOST_EDGES
  pub decorations : decoration_sum_of t ≤ MOST_LISTED_DECORATIONS
  pub filled : is_empty_tree t ≡ false

abbrev pub IsRow : Types → Row → Type 0
IsRow ty r = IsTableTree ty r.0 × IsValue r.1

pub record IsTable (ty : Types) (rs : List Row) : Type 0 where
  pub rows : AllByRecursion (IsRow ty) rs
  pub ascending : IsStrictlySortedBy tree_order (trees_in rs)

abbrev pub without_empty_end : List (List ℕ) → List (List ℕ)
without_empty_end ps =
    cond (length (slice_index_or ps (length ps - 1) []) == 0) (take (length ps - 1) ps) ps

abbrev pub lines_of : List ℕ → List (List ℕ)
lines_of text = without_empty_end (slice_split (λ b. b == 10) text)

abbrev pub HasLines : Types → List (List ℕ) → List Row → Type 0
HasLines ty ls rs = IsTable ty rs × (map (row_text ty) rs ≡ ls)

abbrev pub IsTableText : Types → List ℕ → List Row → Type 0
IsTableText ty text rs = HasLines ty (lines_of text) rs

pub record IsFirstFault (ty : Types) (ls : List (List ℕ)) (n : ℕ) : Type 0 where
  pub some : 1 ≤ n
  pub within : n ≤ length ls
  pub before : (rs : List Row) × HasLines ty (take (n - 1) ls) rs
  pub none : (rs : List Row) → HasLines ty (take n ls) rs → ⊥

abbrev pub AreRefused : Types → List (List ℕ) → CharacterError → Type 0
AreRefused ty ls (TableRefused line) = IsFirstFault ty ls line
AreRefused ty ls (CoefficientTooLarge which) = ⊥
AreRefused ty ls (Missing tree) = ⊥
AreRefused ty ls Memory = ⊤

abbrev pub IsTableRefused : Types → List ℕ → CharacterError → Type 0
IsTableRefused ty text = AreRefused ty (lines_of text)
