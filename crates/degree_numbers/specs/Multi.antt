-- Multiindices as lists of numbers, by direction.
--   is_zero m == all entries are 0
--   plus_of m l == the sum, entry by entry
--   minus_of m l == the difference, entry by entry, stopping at 0
--   IsAtMost m l == no entry of m is greater than that of l
--   IsMultiIndex dims m == m has five entries, and those past the number of directions are 0
--   multi_order m l == lexicographic order from the first entry
--   scaled_size s m == the scaled size |m|_s: the sum of s_i * m_i
use Rattle.std.specs.Prelude.{ℕ, ◌≡◌, ◌+◌, ◌*◌, ◌-◌, ◌≤◌, ◌<◌, ◌==◌, Bool, List, [], ◌∷◌, length, drop, slice_index}
use Rattle.std.specs.List.{AllByRecursion, list_all}
use Rattle.std.specs.Ordering.{nat_cmp}
use Rattle.std.specs.Cmp.Lexicographic.{slice_cmp}
use Rattle.std.specs.declared.cmp.Ordering.{Ordering}

abbrev pub is_zero : List ℕ → Bool
is_zero m = list_all (λ x. x == 0) m

abbrev pub plus_of : List ℕ → List ℕ → List ℕ
plus_of [] ys = ys
plus_of (x ∷ xs) [] = x ∷ xs
plus_of (x ∷ xs) (y ∷ ys) = (x + y) ∷ plus_of xs ys

abbrev pub minus_of : List ℕ → List ℕ → List ℕ
minus_of [] ys = []
minus_of (x ∷ xs) [] = x ∷ xs
minus_of (x ∷ xs) (y ∷ ys) = (x - y) ∷ minus_of xs ys

abbrev pub IsAtMost : List ℕ → List ℕ → Type 0
IsAtMost xs ys = (k : ℕ) → k < 5 → slice_index xs k ≤ slice_index ys k

pub record IsMultiIndex (dims : ℕ) (m : List ℕ) : Type 0 where
  pub entries : length m ≡ 5
  pub rest : AllByRecursion (λ x. x ≡ 0) (drop dims m)

abbrev pub multi_order : List ℕ → List ℕ → Ordering
multi_order = slice_cmp nat_cmp

abbrev pub scaled_size : List ℕ → List ℕ → ℕ
scaled_size [] ms = 0
scaled_size (s ∷ ss) [] = 0
scaled_size (s ∷ ss) (m ∷ ms) = s * m + scaled_size ss ms
