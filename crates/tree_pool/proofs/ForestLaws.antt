-- The list of numbers in tree order is determined by the numbers.
use Rattle.std.proofs.Common.{◌≡◌, ℕ, ◌+◌, ◌<◌, List, [], ◌∷◌, map, length, get_or, Some, refl, ap, ◌∙◌, arith}
use Rattle.std.specs.List.Sorted.{IsSorted}
use Rattle.std.proofs.lemmas.List.{get_or-map, length-map}
use Rattle.std.proofs.lemmas.List.Sorted.{IsPermutation-map, IsPermutation-sym, IsPermutation-trans}
use Rattle.std.proofs.lemmas.Option.{slice_get-get_or}
use Rattle.ordered_lists.proofs.Unique.{sorted_unique}
use Rattle.plain_trees.specs.Plain.{bare, tree_order}
use Rattle.plain_trees.proofs.OrderLaws.{tree_order_total, tree_exact}
use Rattle.tree_pool.specs.Content.{Content, tree_at, id_order, IsPooled}
use Rattle.tree_pool.specs.Forests.{AreKnown, IsSorting}
use Rattle.tree_pool.proofs.Ids.{id_order-at, known_at, known_permuted}

pub sorted_trees : (c : Content) (f : List ℕ) → AreKnown c f → IsSorted (id_order c.trees) f → IsSorted tree_order (map (tree_at c) f)
sorted_trees c f known h = λ k d l m.
    let long : length (map (tree_at c) f) ≡ length f = length-map f (tree_at c) in
    let a : k + 1 < length f = omega arith in
    let b : k < length f = omega arith in
    rw (get_or-map (tree_at c) f (k + 1) 0 d a, get_or-map (tree_at c) f k 0 d b, ← id_order-at c (get_or f (k + 1) 0) (get_or f k 0) (known_at c f (k + 1) 0 known a) (known_at c f k 0 known b)) (h k 0 l a)

same_numbers : (c : Content) (f g : List ℕ) → IsPooled c → AreKnown c f → AreKnown c g → map (tree_at c) f ≡ map (tree_at c) g → f ≡ g
same_numbers c [] [] pool h k e = refl
same_numbers c [] (j ∷ g) pool h k e = absurd cc
same_numbers c (i ∷ f) [] pool h k e = absurd cc
same_numbers c (i ∷ f) (j ∷ g) pool h k e =
    let first : tree_at c i ≡ tree_at c j = cc in
    let rest : map (tree_at c) f ≡ map (tree_at c) g = cc in
    let same : i ≡ j = pool.distinct i j (tree_at c j) (slice_get-get_or c.trees i (bare []) h.0 ∙ ap Some first) (slice_get-get_or c.trees j (bare []) k.0) in
    let tails = same_numbers c f g pool h.1 k.1 rest in
    ap (λ (x : ℕ). x ∷ f) same ∙ ap (λ (xs : List ℕ). j ∷ xs) tails

pub sorting_unique : (c : Content) (ids f g : List ℕ) → IsPooled c → AreKnown c ids → IsSorting c ids f → IsSorting c ids g → f ≡ g
sorting_unique c ids f g pool known h k =
    let known_f = known_permuted c ids f h.same known in
    let known_g = known_permuted c ids g k.same known in
    let both = IsPermutation-trans f ids g (IsPermutation-sym ids f h.same) k.same in
    same_numbers c f g pool known_f known_g
    (sorted_unique tree_order tree_order_total tree_exact (map (tree_at c) f) (map (tree_at c) g) (sorted_trees c f known_f h.sorted) (sorted_trees c g known_g k.sorted) (IsPermutation-map (tree_at c) f g both))
