-- The extraction and the recentring coproduct, after Bruned, Hairer and Zambotti: two readings of
-- the cuttings of a tree. They differ from those of the article in three points. There are no
-- extended decorations: the components that are extracted are those that are unplanted and of
-- negative degree, and the right branches of recentring those of positive degree, by the degrees of
-- the cut trees themselves. Trees are in divided powers: a tree stands for that of the article
-- divided by the factorials of the decorations of its nodes, so the coefficients are multinomials.
-- And a shift is bounded: a greater one gives no term.
--   is_below_zero d, is_above_zero d == the degree d is below 0, is above 0
--   negative_size ty t == minus the sum of the standard parts of the degrees below 0 of edges of t
--   positive_size ty t == the sum of the standard parts of the degrees above 0 of edges of t, and
--       of the degrees of its nodes
--   each_direction d n == the multiindex with d entries n
--   extraction_bound ty t, recentring_bound ty t == the multiindex that bounds the shifts: in each
--       direction the whole part of the one, of the other
--   with_tree t ts, canon_forest ts == a tree put into a forest in tree order, and the canonical
--       form of a forest: the canonical forms of its trees in tree order
--   forest_order fs gs == the order of forests: by length, then lexicographically
--   is_extracted ty t == a component that is extracted: unplanted and of a degree below 0
--   is_admissible ty c == all components of the cutting c are extracted
--   are_above_zero ty t == each edge of the root of t, with all above it, has a degree above 0
--   is_recentred ty c == the set is closed towards the root, and the branches of the quotient's
--       root are above 0
--   Extracted == a forest and a quotient; Recentred == a left and a right tree
--   extracted c, recentred c == what a cutting gives: the canonical forms of its components and of
--       its quotient, of the root's component and of the quotient
--   extracted_order, recentred_order == by forest, then quotient; by left tree, then right tree
--   extraction_coefficient ty t k == the sum of the splitting coefficients of the cuttings of t
--       with these components and this quotient, of which all components are extracted
--   recentring_coefficient ty t k == the sum of the splitting coefficients of the cuttings of t
--       with this left and this right tree that recentre; the root counts as touched
--   extraction_terms ty t, recentring_terms ty t == the pairs with a coefficient that is not 0,
--       each with its coefficient, in order
use Rattle.std.specs.Prelude.{ℕ, zero, suc, ◌+◌, ◌/◌, Bool, true, false, cond, not, ◌&&◌, List, [], ◌∷◌, map, filter, length, unsigned_abs}
use Rattle.std.specs.List.{list_all}
use Rattle.std.specs.Ordering.{nat_cmp, ordering_then, is_eq, is_gt, is_lt}
use Rattle.std.specs.Cmp.Lexicographic.{slice_cmp}
use Rattle.std.specs.declared.cmp.Ordering.{Ordering}
use Rattle.exact_sums.specs.Sums.{counted_if}
use Rattle.exact_sums.specs.Keyed.{collected}
use Rattle.degree_numbers.specs.declared.degree.Degree.{Degree}
use Rattle.degree_numbers.specs.declared.types.Types.{Types}
use Rattle.degree_numbers.specs.Degree.{degree_plus, degree_zero, degree_order}
use Rattle.degree_numbers.specs.Types.{size_in_units}
use Rattle.plain_trees.specs.Plain.{Plain, bare, graft, tree_order}
use Rattle.plain_trees.specs.Canon.{canon}
use Rattle.plain_trees.specs.Degree.{edge_degree_of, degree_of, planted}
use Rattle.plain_trees.specs.Cutting.{Cutting, root_node, component, components, quotient, is_closed, splitting_coefficient, cuttings, cutting_sum}

abbrev pub is_below_zero : Degree → Bool
is_below_zero d = is_lt (degree_order d degree_zero)

abbrev pub is_above_zero : Degree → Bool
is_above_zero d = is_gt (degree_order d degree_zero)

abbrev pub negative_size : Types → Plain → ℕ
negative_size ty (bare n) = 0
negative_size ty (graft k p c t) = counted_if (is_below_zero (edge_degree_of ty k p))
    (unsigned_abs (edge_degree_of ty k p).a) + negative_size ty c + negative_size ty t

abbrev pub positive_size : Types → Plain → ℕ
positive_size ty (bare n) = size_in_units ty n
positive_size ty (graft k p c t) = counted_if (is_above_zero (edge_degree_of ty k p))
    (unsigned_abs (edge_degree_of ty k p).a) + positive_size ty c + positive_size ty t

abbrev pub each_direction : ℕ → ℕ → List ℕ
each_direction zero n = []
each_direction (suc d) n = n ∷ each_direction d n

abbrev pub extraction_bound : Types → Plain → List ℕ
extraction_bound ty t = each_direction ty.dims (negative_size ty t / unsigned_abs ty.units.den)

abbrev pub recentring_bound : Types → Plain → List ℕ
recentring_bound ty t = each_direction ty.dims (positive_size ty t / unsigned_abs ty.units.den)

abbrev pub with_tree : Plain → List Plain → List Plain
with_tree t [] = t ∷ []
with_tree t (u ∷ us) = cond (is_gt (tree_order t u)) (u ∷ with_tree t us) (t ∷ u ∷ us)

abbrev pub canon_forest : List Plain → List Plain
canon_forest [] = []
canon_forest (t ∷ ts) = with_tree (canon t) (canon_forest ts)

abbrev pub forest_order : List Plain → List Plain → Ordering
forest_order fs gs = ordering_then (nat_cmp (length fs) (length gs)) (slice_cmp tree_order fs gs)

abbrev pub is_extracted : Types → Plain → Bool
is_extracted ty t = not (planted ty t) && is_below_zero (degree_of ty t)

abbrev pub is_admissible : Types → Cutting → Bool
is_admissible ty c = list_all (is_extracted ty) (components false c)

abbrev pub are_above_zero : Types → Plain → Bool
are_above_zero ty (bare n) = true
are_above_zero ty (graft k p c t) =
    is_above_zero (degree_plus (edge_degree_of ty k p) (degree_of ty c)) && are_above_zero ty t

abbrev pub is_recentred : Types → Cutting → Bool
is_recentred ty c = is_closed c && are_above_zero ty (quotient c)

abbrev pub Extracted : Type 0
Extracted = List Plain × Plain

abbrev pub Recentred : Type 0
Recentred = Plain × Plain

abbrev pub extracted : Cutting → Extracted
extracted c = (canon_forest (components false c), canon (quotient c))

abbrev pub recentred : Cutting → Recentred
recentred c = (canon (component c.edges (root_node c)), canon (quotient c))

abbrev pub extracted_order : Extracted → Extracted → Ordering
extracted_order k l = ordering_then (forest_order k.0 l.0) (tree_order k.1 l.1)

abbrev pub recentred_order : Recentred → Recentred → Ordering
recentred_order k l = ordering_then (tree_order k.0 l.0) (tree_order k.1 l.1)

unfoldable pub extraction_coefficient : Types → Plain → Extracted → ℕ
extraction_coefficient ty t k = cutting_sum (extraction_bound ty t) false (λ c. is_admissible ty c
    && is_eq (extracted_order (extracted c) k)) t

unfoldable pub recentring_coefficient : Types → Plain → Recentred → ℕ
recentring_coefficient ty t k = cutting_sum (recentring_bound ty t) true (λ c. is_recentred ty c
    && is_eq (recentred_order (recentred c) k)) t

unfoldable pub extraction_terms : Types → Plain → List (Extracted × ℕ)
extraction_terms ty t =
    collected extracted_order (map (λ c. (extracted c, splitting_coefficient false c))
    (filter (is_admissible ty) (cuttings (extraction_bound ty t) false t)))

unfoldable pub recentring_terms : Types → Plain → List (Recentred × ℕ)
recentring_terms ty t =
    collected recentred_order (map (λ c. (recentred c, splitting_coefficient true c))
    (filter (is_recentred ty) (cuttings (recentring_bound ty t) true t)))
