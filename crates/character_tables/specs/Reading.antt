-- How a table is read, line by line.
-- Working notions of the code and of proofs, which no contract of a public call names:
--   HasNo c text == the byte c does not stand in text
--   behind_minus text == what stands behind a `-` at the front of text, where one stands there
--   IsRowOf ty line r == r is a row, and line is its text
--   AreBefore ts t == each of the trees ts comes before t in tree order
--   IsReadRow c line r == r is a row of a tree of the pool, and line is its text
--   AreReadRows c ls rs == rs are rows of trees of the pool, they are a table, and ls are the texts
--       of its rows
use Rattle.std.specs.Prelude.{◌≡◌, ◌≢◌, ℕ, ◌<◌, ◌==◌, if◌then◌else◌, List, [], ◌∷◌, length, Option, Some, None}
use Rattle.std.specs.List.{AllByRecursion}
use Rattle.std.specs.declared.cmp.Ordering.TheVariants.{Less}
use Rattle.degree_numbers.specs.declared.types.Types.{Types}
use Rattle.plain_trees.specs.Plain.{Plain, tree_order}
use Rattle.tree_pool.specs.Content.{Content, tree_at}
use Rattle.character_tables.specs.declared.table.CharacterRow.{CharacterRow}
use Rattle.character_tables.specs.Rows.{Row, rows_over, AreKnownRows}
use Rattle.character_tables.specs.Texts.{row_text, IsRow, HasLines}

abbrev pub HasNo : ℕ → List ℕ → Type 0
HasNo c text = AllByRecursion (λ b. b ≢ c) text

abbrev pub behind_minus : List ℕ → Option (List ℕ)
behind_minus [] = None
behind_minus (c ∷ cs) = if c == 45 then Some cs else None

abbrev pub IsRowOf : Types → List ℕ → Row → Type 0
IsRowOf ty line r = IsRow ty r × (row_text ty r ≡ line)

abbrev pub AreBefore : List Plain → Plain → Type 0
AreBefore ts t = AllByRecursion (λ u. tree_order u t ≡ Less) ts

pub record IsReadRow (c : Content) (line : List ℕ) (r : CharacterRow) : Type 0 where
  pub known : r.tree.0 < length c.trees
  pub row : IsRowOf c.types line (tree_at c r.tree.0, r.value)

pub record AreReadRows (c : Content) (ls : List (List ℕ)) (rs : List CharacterRow) : Type 0 where
  pub known : AreKnownRows c rs
  pub lines : HasLines c.types ls (rows_over c rs)
