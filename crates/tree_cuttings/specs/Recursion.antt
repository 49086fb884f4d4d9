-- Sums over the cuttings of a tree, by a recursion down the tree.
--   sweep w true t f == the sum of f over the cuttings of t in which the root counts as touched
--   sweep w false t f == the sum of f over those in which no edge of the set leaves the root and
--       the root is not touched
--   closed_sum w t f == the sum of f over all cuttings of t
use Rattle.std.specs.Prelude.{ℕ, ◌+◌, Bool, true, false, List}
use Rattle.plain_trees.specs.Plain.{Plain, bare, graft}
use Rattle.degree_numbers.specs.Multi.{minus_of}
use Rattle.plain_trees.specs.Multinomials.{below, zeros}
use Rattle.plain_trees.specs.Cutting.{shifts}
use Rattle.exact_sums.specs.Sums.{total, counted_if}
use Rattle.tree_cuttings.specs.CutTree.{CutTree, node, edge, leaves}

abbrev pub sweep : List ℕ → Bool → Plain → (CutTree → ℕ) → ℕ
sweep w true (bare n) f = total (λ a. f (node a (minus_of n a))) (below n)
sweep w false (bare n) f = f (node (zeros n) n)
sweep w true (graft k p c t) f =
    sweep w true c (λ x. sweep w true t (λ y. f (edge true (zeros p) k p x y)))
    + total
    (λ s.
    sweep w false c (λ x. sweep w true t (λ y. f (edge false s k p x y)))
    + sweep w true c (λ x. counted_if (leaves x) (sweep w true t (λ y. f (edge false s k p x y)))))
    (shifts w p)
sweep w false (graft k p c t) f =
    sweep w false c (λ x. sweep w false t (λ y. f (edge false (zeros p) k p x y)))
    + sweep w true c (λ x. counted_if (leaves x)
    (sweep w false t (λ y. f (edge false (zeros p) k p x y))))

abbrev pub closed_sum : List ℕ → Plain → (CutTree → ℕ) → ℕ
closed_sum w t f = sweep w false t f + sweep w true t (λ x. counted_if (leaves x) (f x))
