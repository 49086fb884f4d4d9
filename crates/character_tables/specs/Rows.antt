-- Characters as tables: rows, each of a tree with its value.
--   Row == a tree with its value
--   rows_over c rs == the rows rs, by the numbers of a pool, as rows of their trees
--   trees_in rs == the trees of the rows rs
--   AreKnownRows c rs == the numbers of rs are those of trees of the pool
--   IsValue z == the absolute value of z is at most 2^127-1
--   IsCharacter c rs == rs are rows of trees of the pool, in strictly ascending tree order, with
--       such values
use Rattle.std.specs.Prelude.{ℕ, ℤ, ◌<◌, List, map, length, unsigned_abs}
use Rattle.std.specs.List.{AllByRecursion}
use Rattle.std.specs.List.Sorted.{IsStrictlySortedBy}
use Rattle.exact_sums.specs.Saturating.{overflow}
use Rattle.plain_trees.specs.Plain.{Plain, tree_order}
use Rattle.tree_pool.specs.Content.{Content, tree_at}
use Rattle.character_tables.specs.declared.table.CharacterRow.{CharacterRow}

abbrev pub Row : Type 0
Row = Plain × ℤ

abbrev pub rows_over : Content → List CharacterRow → List Row
rows_over c = map (λ r. (tree_at c r.tree.0, r.value))

abbrev pub trees_in : List Row → List Plain
trees_in = map (λ r. r.0)

abbrev pub AreKnownRows : Content → List CharacterRow → Type 0
AreKnownRows c = AllByRecursion (λ r. r.tree.0 < length c.trees)

abbrev pub IsValue : ℤ → Type 0
IsValue z = unsigned_abs z < overflow

pub record IsCharacter (c : Content) (rs : List CharacterRow) : Type 0 where
  pub known : AreKnownRows c rs
  pub ascending : IsStrictlySortedBy tree_order (trees_in (rows_over c rs))
  pub values : AllByRecursion (λ r. IsValue r.value) rs
