-- Lines of cells: the least excess in each class.
-- Working notions of the code and of proofs, which no contract of a public call names:
--   Line == for each class the value of its cell, or none
--   most_excess == the excesses that are kept are at most this
--   excess_plus x y, no_excess == the sum, part by part, and 0
--   standard z == the standard part z alone
--   IsAtMost x y == x is at most y, by the standard part, then by the coefficient of k
--   small == 5 * 10^37
--   IsSmall x, IsSmallCell cell, AreSmall line == both parts are at most 5 * 10^37 in size, so that
--       each sum of two fits
--   HasCell line m v == the cell of class m has the value v
--   IsNone line == no cell has a value
--   IsLesser cell v w == w is the lesser of the cell's value, if there is one, and v
--   Joins old P new == the line new has the values of old and those v of class m with P m v, of
--       each class the least
--   IsLeast P line == the line has the least v with P m v, for each class m that has one of at most
--       most_excess
use Rattle.std.specs.Prelude.{◌≡◌, ℕ, ℤ, pos, ◌+ℤ◌, ◌≤ℤ◌, ◌⊎◌, List, slice_index_or}
use Rattle.std.specs.declared.option.Option.{Option}
use Rattle.std.specs.declared.option.Option.TheVariants.{Some, None}
use Rattle.degree_numbers.specs.Degree.{IsWithin}
use Rattle.large_trees.specs.declared.excess.Excess.{Excess}

abbrev pub most_excess : ℕ
most_excess = 40000000

abbrev pub excess_plus : Excess → Excess → Excess
excess_plus x y = record { a = x.a +ℤ y.a; b = x.b +ℤ y.b }

abbrev pub standard : ℤ → Excess
standard z = record { a = z; b = pos 0 }

abbrev pub no_excess : Excess
no_excess = record { a = pos 0; b = pos 0 }

pub record IsAtMost (x : Excess) (y : Excess) : Type 0 where
  pub standard : x.a ≤ℤ y.a
  pub tied : x.a ≡ y.a → x.b ≤ℤ y.b

abbrev pub Line : Type 0
Line = List (Option Excess)

abbrev pub HasCell : Line → ℕ → Excess → Type 0
HasCell line m v = slice_index_or line m None ≡ Some v

abbrev pub small : ℕ
small = 50000000000000000000000000000000000000

pub record IsSmall (x : Excess) : Type 0 where
  pub a : IsWithin x.a small
  pub b : IsWithin x.b small

abbrev pub IsSmallCell : Option Excess → Type 0
IsSmallCell cell = (x : Excess) → cell ≡ Some x → IsSmall x

abbrev pub AreSmall : Line → Type 0
AreSmall line = (m : ℕ) (x : Excess) → HasCell line m x → IsSmall x

abbrev pub IsNone : Line → Type 0
IsNone line = (m : ℕ) (v : Excess) → HasCell line m v → ⊥

abbrev pub IsLesser : Option Excess → Excess → Excess → Type 0
IsLesser None v w = w ≡ v
IsLesser (Some u) v w = ((w ≡ u) ⊎ (w ≡ v)) × IsAtMost w u × IsAtMost w v

pub record Joins (old : Line) (P : ℕ → Excess → Type 0) (new : Line) : Type 0 where
  pub attained : (m : ℕ) (v : Excess) → HasCell new m v →
      HasCell old m v ⊎ (P m v × (v.a ≤ℤ pos most_excess))
  pub kept : (m : ℕ) (v : Excess) → HasCell old m v → (u : Excess) × HasCell new m u × IsAtMost u v
  pub least : (m : ℕ) (v : Excess) → P m v → v.a ≤ℤ pos most_excess →
      (u : Excess) × HasCell new m u × IsAtMost u v

pub record IsLeast (P : ℕ → Excess → Type 0) (line : Line) : Type 0 where
  pub attained : (m : ℕ) (v : Excess) → HasCell line m v → P m v × (v.a ≤ℤ pos most_excess)
  pub least : (m : ℕ) (v : Excess) → P m v → v.a ≤ℤ pos most_excess →
      (u : Excess) × HasCell line m u × IsAtMost u v
