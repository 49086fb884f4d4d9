-- Symmetry factors of canonical trees, after Bruned, Chandra, Chevyrev and Hairer. Node decorations
-- are divided powers here, so their factorials are left out.
--   root_edge k p c == an edge of type k with derivative decoration p, and the tree c above it
--   root_edges t == the edges of the root of t, each with the tree above it
--   factored_edges t == the same, each with the symmetry factor of the tree above it
--   factored_order x y == edge order of such edges
--   symmetry_product es == the product over the distinct edges of es, with multiplicity b, of (the
--       factor of the tree above it)^b * b!
--   symmetry_of t == the symmetry factor of t: the product over the distinct pairs of edge type and
--       subtree at the root
use Rattle.std.specs.Prelude.{ℕ, ◌*◌, ◌^◌, List, [], ◌∷◌}
use Rattle.std.specs.declared.cmp.Ordering.{Ordering}
use Rattle.exact_sums.specs.Sums.{product_over}
use Rattle.multiplicities.specs.Distinct.{distinct_by}
use Rattle.exact_sums.specs.Binomials.{factorial}
use Rattle.ordered_lists.specs.Subs.{count_of}
use Rattle.plain_trees.specs.Plain.{Plain, bare, graft}
use Rattle.plain_trees.specs.Canon.{Planted, planted_order}

abbrev pub root_edge : ℕ → List ℕ → Plain → Planted
root_edge k p c = record { kind = k; p = p; child = c }

abbrev pub root_edges : Plain → List Planted
root_edges (bare n) = []
root_edges (graft k p c t) = root_edge k p c ∷ root_edges t

abbrev pub factored_order : Planted × ℕ → Planted × ℕ → Ordering
factored_order x y = planted_order x.0 y.0

abbrev pub symmetry_product : List (Planted × ℕ) → ℕ
symmetry_product es = product_over (λ x. x.1 ^ count_of factored_order x es
    * factorial (count_of factored_order x es)) (distinct_by factored_order es)

abbrev pub factored_edges : Plain → List (Planted × ℕ)
factored_edges (bare n) = []
factored_edges (graft k p c t) =
    (root_edge k p c, symmetry_product (factored_edges c)) ∷ factored_edges t

abbrev pub symmetry_of : Plain → ℕ
symmetry_of t = symmetry_product (factored_edges t)
