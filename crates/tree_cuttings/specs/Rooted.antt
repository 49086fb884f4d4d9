-- Cuttings whose set is closed towards the root, which counts as touched: their one component is
-- that of the root.
-- What contracts of public calls say:
--   whole_entry c == what a tree that stays whole gives
--   rooted_entries w t == what these cuttings of t give, by a recursion down the tree
-- Working notions of the code and of proofs:
--   is_rooted entered m == below each edge of the set all edges are in the set; `entered` says so
--       of the edges below m
--   whole t == t with no edge in the set and nothing taken
--   rooted_sum w t f == the sum of f over these cuttings of t
use Rattle.std.specs.Prelude.{ℕ, ◌+◌, Bool, true, false, not, ◌&&◌, ◌||◌, List, [], ◌++◌, map, flat_map}
use Rattle.plain_trees.specs.Plain.{Plain, bare, graft}
use Rattle.degree_numbers.specs.Multi.{minus_of}
use Rattle.plain_trees.specs.Multinomials.{below, zeros}
use Rattle.plain_trees.specs.Cutting.{shifts}
use Rattle.exact_sums.specs.Sums.{total}
use Rattle.tree_cuttings.specs.CutTree.{CutTree, node, edge}
use Rattle.tree_cuttings.specs.Entries.{Entry, with_inside, with_outside, pairs}

abbrev pub is_rooted : Bool → CutTree → Bool
is_rooted entered (node a l) = true
is_rooted entered (edge b s k p c r) = (not b || entered) && (is_rooted b c && is_rooted entered r)

abbrev pub whole : Plain → CutTree
whole (bare n) = node (zeros n) n
whole (graft k p c t) = edge false (zeros p) k p (whole c) (whole t)

abbrev pub rooted_sum : List ℕ → Plain → (CutTree → ℕ) → ℕ
rooted_sum w (bare n) f = total (λ a. f (node a (minus_of n a))) (below n)
rooted_sum w (graft k p c t) f =
    rooted_sum w c (λ x. rooted_sum w t (λ y. f (edge true (zeros p) k p x y)))
    + total (λ s. rooted_sum w t (λ y. f (edge false s k p (whole c) y))) (shifts w p)

abbrev pub whole_entry : Plain → Entry
whole_entry c = record { coefficient = 1; above = []; part = bare []; quotient = c }

abbrev pub rooted_entries : List ℕ → Plain → List Entry
rooted_entries w (bare n) =
    map (λ a. record { coefficient = 1; above = []; part = bare a; quotient = bare (minus_of n a) })
    (below n)
rooted_entries w (graft k p c t) =
    pairs (with_inside k p) (rooted_entries w c) (rooted_entries w t)
    ++ flat_map (λ s. map (with_outside s k p (whole_entry c)) (rooted_entries w t)) (shifts w p)
