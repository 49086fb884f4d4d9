-- All cuttings of a tree, read down the tree, and the sums over them.
--   cut_markings w t == all ways to mark the edges of t, to part its decorations in two, and to
--       raise its edges by shifts that are at most w
--   cut_trees w forced t == those that are cut as is allowed
--   cut_sum w forced test t == the sum of the splitting coefficients of those whose components and
--       contracted tree pass a test
use Rattle.std.specs.Prelude.{ℕ, Bool, true, false, List, [], ◌∷◌, map, flat_map, filter}
use Rattle.exact_sums.specs.Sums.{total, counted_if}
use Rattle.degree_numbers.specs.Multi.{minus_of}
use Rattle.plain_trees.specs.Plain.{Plain, bare, graft}
use Rattle.plain_trees.specs.Multinomials.{below}
use Rattle.plain_trees.specs.Cutting.{shifts}
use Rattle.tree_cuttings.specs.CutTree.{CutTree, node, edge, is_cut, cut_components, contracted, cut_coefficient}

abbrev pub cut_markings : List ℕ → Plain → List CutTree
cut_markings w (bare n) = map (λ a. node a (minus_of n a)) (below n)
cut_markings w (graft k p c t) =
    flat_map (λ b. flat_map (λ s. flat_map (λ x. map (λ y. edge b s k p x y) (cut_markings w t))
    (cut_markings w c)) (shifts w p)) (true ∷ false ∷ [])

abbrev pub cut_trees : List ℕ → Bool → Plain → List CutTree
cut_trees w forced t = filter (is_cut forced) (cut_markings w t)

unfoldable pub cut_sum : List ℕ → Bool → (List Plain → Plain → Bool) → Plain → ℕ
cut_sum w forced test t = total (λ m. counted_if (test (cut_components forced m) (contracted m))
    (cut_coefficient m)) (cut_trees w forced t)
