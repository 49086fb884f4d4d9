-- Trees of bounded size.
--   AreTyped ty e == the trees of an entry are trees over the types ty
--   IsBounded t == t has at most 24 edges (`MOST_EDGES`), the entries of the decorations of its
--       edges have a sum of at most 64 (`MOST_LISTED_DECORATIONS`), those of its nodes of at most
--       1120 (`MOST_NODE_DECORATIONS`)
--   IsFit t == t is not too large: at most 24 edges and a decoration sum of at most 64
--   HasAtMost most t == t has at most 24 edges and a decoration sum of at most `most`
--   IsOfBounded e == the trees of an entry are as small as those of live entries of bounded trees
--       are
--   IsSmaller s t == s has fewer edges than t, or as many and a smaller sum of the entries of the
--       decorations of its nodes
--   most_shift == 1120, a bound on the entries of all shifts in bounded trees
--   most_part == 1184, a bound on the decoration sums of live components of bounded trees, and of
--       both trees that recentring gives
--   most_quotient == 2304, a bound on the decoration sums of the quotients of bounded trees
--   most_open_quotient == 3424, the same as long as the root's component is open
use Rattle.std.specs.Prelude.{ℕ, ◌≡◌, ◌<◌, ◌≤◌, ◌+◌, ◌*◌, ◌⊎◌}
use Rattle.std.specs.List.{AllByRecursion}
use Rattle.degree_numbers.specs.declared.types.Types.{Types}
use Rattle.plain_trees.specs.Plain.{Plain, edge_count_of, decoration_sum_of}
use Rattle.plain_trees.specs.Degree.{HasTypes}
use Rattle.tree_cuttings.specs.Entries.{Entry}
use Rattle.limits.specs.declared.TheConstants.{MOST_EDGES, MOST_LISTED_DECORATIONS, MOST_NODE_DECORATIONS, LARGEST_DEGREE, LARGEST_SCALING}
use Rattle.cutting_sizes.specs.Sizes.{node_sum, edge_sum}

pub record AreTyped (ty : Types) (e : Entry) : Type 0 where
  pub above : AllByRecursion (HasTypes ty) e.above
  pub part : HasTypes ty e.part
  pub quotient : HasTypes ty e.quotient

pub record IsBounded (t : Plain) : Type 0 where
  pub edges : edge_count_of t ≤ MOST_EDGES
  pub derivatives : edge_sum t ≤ MOST_LISTED_DECORATIONS
  pub decorations : node_sum t ≤ MOST_NODE_DECORATIONS

pub record IsFit (t : Plain) : Type 0 where
  pub edges : edge_count_of t ≤ MOST_EDGES
  pub decorations : decoration_sum_of t ≤ MOST_LISTED_DECORATIONS

pub record HasAtMost (most : ℕ) (t : Plain) : Type 0 where
  pub edges : edge_count_of t ≤ MOST_EDGES
  pub decorations : decoration_sum_of t ≤ most

-- the standard part of an edge's degree is at least minus the largest degree, and less by at most
-- the largest scaling for each derivative
abbrev pub most_shift : ℕ
most_shift = LARGEST_DEGREE * MOST_EDGES + LARGEST_SCALING * MOST_LISTED_DECORATIONS

abbrev pub most_part : ℕ
most_part = MOST_LISTED_DECORATIONS + most_shift

abbrev pub most_quotient : ℕ
most_quotient = MOST_LISTED_DECORATIONS + 2 * most_shift

abbrev pub most_open_quotient : ℕ
most_open_quotient = MOST_LISTED_DECORATIONS + 3 * most_shift

pub record IsOfBounded (e : Entry) : Type 0 where
  pub above : AllByRecursion IsBounded e.above
  pub part : HasAtMost most_part e.part
  pub quotient : HasAtMost most_open_quotient e.quotient

abbrev pub IsSmaller : Plain → Plain → Type 0
IsSmaller s t = (edge_count_of s < edge_count_of t) ⊎ ((edge_count_of s ≡ edge_count_of t)
    × (node_sum s < node_sum t))
