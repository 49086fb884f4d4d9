-- Forests of trees of a pool, each once. A forest is the list of the numbers of its trees, in tree
-- order.
-- What contracts of public calls say:
--   numbers ids == the numbers ids, as contracts of forests see them
--   numbers_of f, forests_of fs == the same of a forest, of each of a list of forests
--   forest_at fs i == the forest with the number i
--   AreKnown c ids == each of the numbers ids is that of a tree of the pool
--   IsForest c f == f names trees of the pool, in their tree order
--   IsSorting c ids f == f is the list ids in tree order of the trees
--   list_order ts xs ys == the order of the lists of the trees with the numbers xs and ys in ts: by
--       length, then lexicographically
--   forest_id_order ts fs f g == that of the forests with the numbers f and g in fs; a number past
--       the end comes first
--   AreDistinct fs == no forest stands at two places
--   Fits fs c == each of the forests fs is one of the pool
--   IsGrownWith old new f == new is old, or old with the forest f behind it
-- Working notions of the code and of proofs:
--   LacksForest fs f == f is none of the forests fs
use Rattle.std.specs.Prelude.{◌≡◌, ◌≢◌, ◌⊎◌, ℕ, ◌<◌, List, [], ◌∷◌, ◌++◌, map, length, slice_get, slice_index_or, Some}
use Rattle.std.specs.Cmp.Lexicographic.{slice_cmp}
use Rattle.std.specs.List.{AllByRecursion}
use Rattle.std.specs.List.Sorted.{IsSorted, IsPermutation}
use Rattle.std.specs.Option.{option_cmp}
use Rattle.std.specs.Ordering.{nat_cmp, ordering_then}
use Rattle.std.specs.declared.cmp.Ordering.{Ordering}
use Rattle.plain_trees.specs.Plain.{Plain}
use Rattle.tree_pool.specs.Content.{Content, id_order}
use Rattle.tree_pool.specs.declared.node.TreeId.{TreeId}
use Rattle.tree_pool.specs.declared.forest.Forest.{Forest}

abbrev pub numbers : List TreeId → List ℕ
numbers = map (λ id. id.0)

abbrev pub numbers_of : Forest → List ℕ
numbers_of f = numbers f.trees.now

abbrev pub forests_of : List Forest → List (List ℕ)
forests_of = map numbers_of

abbrev pub forest_at : List (List ℕ) → ℕ → List ℕ
forest_at fs i = slice_index_or fs i []

abbrev pub AreKnown : Content → List ℕ → Type 0
AreKnown c ids = AllByRecursion (λ i. i < length c.trees) ids

pub record IsForest (c : Content) (f : List ℕ) : Type 0 where
  pub known : AreKnown c f
  pub sorted : IsSorted (id_order c.trees) f

pub record IsSorting (c : Content) (ids f : List ℕ) : Type 0 where
  pub sorted : IsSorted (id_order c.trees) f
  pub same : IsPermutation ids f

abbrev pub Fits : List (List ℕ) → Content → Type 0
Fits fs c = (i : ℕ) (f : List ℕ) → slice_get fs i ≡ Some f → IsForest c f

abbrev pub list_order : List Plain → List ℕ → List ℕ → Ordering
list_order ts xs ys =
    ordering_then (nat_cmp (length xs) (length ys)) (slice_cmp (id_order ts) xs ys)

abbrev pub forest_id_order : List Plain → List (List ℕ) → ℕ → ℕ → Ordering
forest_id_order ts fs f g = option_cmp (list_order ts) (slice_get fs f) (slice_get fs g)

abbrev pub LacksForest : List (List ℕ) → List ℕ → Type 0
LacksForest fs f = (i : ℕ) → slice_get fs i ≢ Some f

abbrev pub AreDistinct : List (List ℕ) → Type 0
AreDistinct fs = (i j : ℕ) (f : List ℕ) → slice_get fs i ≡ Some f → slice_get fs j ≡ Some f → i ≡ j

abbrev pub IsGrownWith : List (List ℕ) → List (List ℕ) → List ℕ → Type 0
IsGrownWith old new f = (new ≡ old) ⊎ (new ≡ old ++ f ∷ [])
