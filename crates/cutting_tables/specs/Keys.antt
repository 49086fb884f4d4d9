-- What a cutting gives, in canonical form, and how it grows by one more edge at the root: by an
-- edge of the set, or by an edge outside it.
--   Opened == the finished components, the part of the root's component so far, and the quotient,
--       while the root's component is open
--   opened e == what an entry gives while the root's component is open
--   opened_order x y == by finished components, then part, then quotient
--   inside k p x y == one more edge at the root of y, in the set, with x above it
--   inside_factor x y == the binomial of what is left at the two roots, which are contracted to one
--   outside s k p x y == one more edge at the root of y, outside the set and raised by s; above it
--       stand the components and the quotient x
--   outside_factor s y == the binomial of the shift and of what is taken at the root so far
--   beside k p x y == the same where the root is not touched: the edge is not raised
--   closes ty x == the root's component has an edge and is one that is extracted
--   closing x == the root's component is finished: the components and the quotient
--   right_branch ty k p c s == the branch of edge (k, p), raised by s, with the tree c above it,
--       has a degree above 0
--   left_inside k p x y == of pairs of a left and a right tree: one more edge at the root of the
--       left tree, with that of x above it
--   left_factor x y == the binomial of the decorations of the roots of the two right trees, which
--       become one
--   right_outside s k p c y == one more branch at the root of the right tree: the edge raised by s,
--       with the whole tree c above it
--   right_factor s y == the binomial of the shift and of the decoration of the left tree's root
use Rattle.std.specs.Prelude.{ℕ, Bool, ◌&&◌, List, ◌++◌}
use Rattle.std.specs.Ordering.{ordering_then}
use Rattle.std.specs.declared.cmp.Ordering.{Ordering}
use Rattle.degree_numbers.specs.declared.types.Types.{Types}
use Rattle.degree_numbers.specs.Degree.{degree_plus}
use Rattle.degree_numbers.specs.Multi.{plus_of}
use Rattle.plain_trees.specs.Plain.{Plain, graft, root_of, tree_order}
use Rattle.plain_trees.specs.Canon.{canon}
use Rattle.plain_trees.specs.Degree.{edge_degree_of, degree_of}
use Rattle.plain_trees.specs.Multinomials.{choose}
use Rattle.plain_trees.specs.Coproducts.{Extracted, Recentred, with_tree, canon_forest, forest_order, is_extracted, is_above_zero}
use Rattle.tree_cuttings.specs.Roots.{raised, joined, has_edge}
use Rattle.tree_cuttings.specs.Entries.{Entry}

pub record Opened : Type 0 where
  pub above : List Plain
  pub part : Plain
  pub quotient : Plain

abbrev pub opened : Entry → Opened
opened e = record { above = canon_forest e.above; part = canon e.part; quotient = canon e.quotient }

abbrev pub opened_order : Opened → Opened → Ordering
opened_order x y =
    ordering_then (forest_order x.above y.above)
    (ordering_then (tree_order x.part y.part) (tree_order x.quotient y.quotient))

abbrev pub inside : ℕ → List ℕ → Opened → Opened → Opened
inside k p x y =
    record {
      above = canon_forest (x.above ++ y.above);
      part = canon (graft k p x.part y.part);
      quotient = canon (joined x.quotient y.quotient);
    }

abbrev pub inside_factor : Opened → Opened → ℕ
inside_factor x y = choose (plus_of (root_of x.quotient) (root_of y.quotient)) (root_of x.quotient)

abbrev pub outside : List ℕ → ℕ → List ℕ → Extracted → Opened → Opened
outside s k p x y =
    record {
      above = canon_forest (x.0 ++ y.above);
      part = raised s y.part;
      quotient = canon (graft k (plus_of p s) x.1 y.quotient);
    }

abbrev pub outside_factor : List ℕ → Extracted → Opened → ℕ
outside_factor s x y = choose (plus_of s (root_of y.part)) s

abbrev pub beside : ℕ → List ℕ → Extracted → Extracted → Extracted
beside k p x y = (canon_forest (x.0 ++ y.0), canon (graft k p x.1 y.1))

abbrev pub closes : Types → Opened → Bool
closes ty x = has_edge x.part && is_extracted ty x.part

abbrev pub closing : Opened → Extracted
closing x = (with_tree x.part x.above, x.quotient)

abbrev pub right_branch : Types → ℕ → List ℕ → Plain → List ℕ → Bool
right_branch ty k p c s =
    is_above_zero (degree_plus (edge_degree_of ty k (plus_of p s)) (degree_of ty c))

abbrev pub left_inside : ℕ → List ℕ → Recentred → Recentred → Recentred
left_inside k p x y = (canon (graft k p x.0 y.0), canon (joined x.1 y.1))

abbrev pub left_factor : Recentred → Recentred → ℕ
left_factor x y = choose (plus_of (root_of x.1) (root_of y.1)) (root_of x.1)

abbrev pub right_outside : List ℕ → ℕ → List ℕ → Plain → Recentred → Recentred
right_outside s k p c y = (raised s y.0, canon (graft k (plus_of p s) c y.1))

abbrev pub right_factor : List ℕ → Plain → Recentred → ℕ
right_factor s c y = choose (plus_of s (root_of y.0)) s
