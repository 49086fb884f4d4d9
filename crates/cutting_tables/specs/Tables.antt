-- The tables of a tree: what its cuttings give, in canonical form, with their coefficients. They
-- are made edge by edge, from the last edge of the root to the first.
--   ExtractionTables == `idle`, of the cuttings with no edge of the set at the root, and `touched`,
--       of those in which the root counts as touched
--   seeds n == of the tree with one node: each part of the decoration n taken
--   closed_terms ty x == of all cuttings of which all components are extracted: the idle ones, and
--       the others that can be closed
--   idle_branch k p closed idle == one more edge at the root, which is not touched, with the terms
--       `closed` above it
--   touched_branch w k p above closed touched == one more edge at the root: in the set, with the
--       open terms `above` above it,
--       or outside it, raised by a shift that is at most w, with the terms `closed` above it
--   with_branch ty w k p x y == from the tables x of a tree and y of another: those of the second
--       with the first on one more edge at its root
--   extraction_tables ty w t == the tables of t with shifts that are at most w; components are
--       finished only where they are extracted
--   right_shifts ty w k p c == the shifts that are at most w and leave the branch a degree above 0
--   with_right_branch ty w k p c x y == the table y with one more edge at the root: with x above it
--       in the left tree, or with the whole of c above it in the right tree
--   recentring_table ty w t == the pairs that the cuttings of t which recentre give, with shifts
--       that are at most w
use Rattle.std.specs.Prelude.{ℕ, List, [], ◌∷◌, ◌++◌, map, flat_map, filter}
use Rattle.degree_numbers.specs.declared.types.Types.{Types}
use Rattle.degree_numbers.specs.Multi.{minus_of}
use Rattle.exact_sums.specs.Keyed.{rekeyed, products_with, products}
use Rattle.plain_trees.specs.Plain.{Plain, bare, graft}
use Rattle.plain_trees.specs.Multinomials.{below}
use Rattle.plain_trees.specs.Cutting.{shifts}
use Rattle.plain_trees.specs.Coproducts.{Extracted, Recentred}
use Rattle.cutting_tables.specs.Keys.{Opened, inside, inside_factor, outside, outside_factor, beside, closes, closing, right_branch, left_inside, left_factor, right_outside, right_factor}

pub record ExtractionTables : Type 0 where
  pub idle : List (Extracted × ℕ)
  pub touched : List (Opened × ℕ)

abbrev pub seeds : List ℕ → List (Opened × ℕ)
seeds n =
    map (λ a. (record { above = []; part = bare a; quotient = bare (minus_of n a) }, 1)) (below n)

abbrev pub closed_terms : Types → ExtractionTables → List (Extracted × ℕ)
closed_terms ty x = x.idle ++ rekeyed closing (filter (λ e. closes ty e.0) x.touched)

abbrev pub idle_branch : ℕ → List ℕ → List (Extracted × ℕ) → List (Extracted × ℕ) →
    List (Extracted × ℕ)
idle_branch k p closed idle = products (λ x y. 1) (beside k p) closed idle

abbrev pub touched_branch : List ℕ → ℕ → List ℕ → List (Opened × ℕ) → List (Extracted × ℕ) →
    List (Opened × ℕ) → List (Opened × ℕ)
touched_branch w k p above closed touched =
    products inside_factor (inside k p) above touched
    ++ flat_map (λ s. products (outside_factor s) (outside s k p) closed touched) (shifts w p)

abbrev pub with_branch : Types → List ℕ → ℕ → List ℕ → ExtractionTables → ExtractionTables →
    ExtractionTables
with_branch ty w k p x y =
    record {
      idle = idle_branch k p (closed_terms ty x) y.idle;
      touched = touched_branch w k p x.touched (closed_terms ty x) y.touched;
    }

abbrev pub extraction_tables : Types → List ℕ → Plain → ExtractionTables
extraction_tables ty w (bare n) = record { idle = (([], bare n), 1) ∷ []; touched = seeds n }
extraction_tables ty w (graft k p c t) =
    with_branch ty w k p (extraction_tables ty w c) (extraction_tables ty w t)

abbrev pub right_shifts : Types → List ℕ → ℕ → List ℕ → Plain → List (List ℕ)
right_shifts ty w k p c = filter (right_branch ty k p c) (shifts w p)

abbrev pub with_right_branch : Types → List ℕ → ℕ → List ℕ → Plain → List (Recentred × ℕ) →
    List (Recentred × ℕ) → List (Recentred × ℕ)
with_right_branch ty w k p c x y =
    products left_factor (left_inside k p) x y
    ++ flat_map (λ s. products_with (right_factor s) (right_outside s k p) c y)
    (right_shifts ty w k p c)

abbrev pub recentring_table : Types → List ℕ → Plain → List (Recentred × ℕ)
recentring_table ty w (bare n) = map (λ a. ((bare a, bare (minus_of n a)), 1)) (below n)
recentring_table ty w (graft k p c t) =
    with_right_branch ty w k p c (recentring_table ty w c) (recentring_table ty w t)
