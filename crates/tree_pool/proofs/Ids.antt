-- Lists of numbers of trees, in the order of their trees.
use Rattle.std.proofs.Common.{◌≡◌, ℕ, zero, suc, ◌+◌, ◌<◌, ◌≤◌, List, [], ◌∷◌, ◌++◌, length, get_or, slice_get, Some, refl, sym, ◌∙◌, arith, All, subst, inl, inr}
use Rattle.std.specs.Cmp.{IsTotalOrder}
use Rattle.std.specs.Cmp.Lexicographic.{options_total}
use Rattle.std.specs.List.Sorted.{IsSorted, IsPermutation}
use Rattle.std.proofs.lemmas.Cmp.{on_total}
use Rattle.std.proofs.lemmas.List.{get_or-map, length-map, map-append}
use Rattle.std.proofs.lemmas.List.Sorted.{All-permutation}
use Rattle.std.proofs.lemmas.Option.{slice_get-get_or}
use Rattle.plain_trees.specs.Plain.{Plain, bare, tree_order}
use Rattle.plain_trees.proofs.OrderLaws.{tree_order_total}
use Rattle.tree_pool.specs.Content.{Content, tree_at, id_order, IsGrown}
use Rattle.tree_pool.specs.Forests.{numbers, numbers_of, forests_of, forest_at, AreKnown, IsForest, IsSorting, Fits, LacksForest, AreDistinct, IsGrownWith}
use Rattle.tree_pool.specs.declared.node.TreeId.{TreeId}
use Rattle.tree_pool.specs.declared.forest.Forest.{Forest}
use Rattle.tree_pool.proofs.Growth.{grown_length}
use Rattle.tree_pool.proofs.Walks.{get_or-slice_get}
use Rattle.tree_pool.proofs.Trees.{distinct-push, slice_get-append, slice_get-append_cases, slice_get-end, slice_get_some}

-- the order of numbers
pub id_order_total : (ts : List Plain) → IsTotalOrder (id_order ts)
id_order_total ts = on_total (slice_get ts) (options_total tree_order_total)

pub id_order-at : (c : Content) (i j : ℕ) → i < length c.trees → j < length c.trees → id_order c.trees i j ≡ tree_order (tree_at c i) (tree_at c j)
id_order-at c i j h k = rw (slice_get-get_or c.trees i (bare []) h, slice_get-get_or c.trees j (bare []) k) refl

pub id_order-grown : (old new : Content) (i j : ℕ) → IsGrown old new → i < length old.trees →
    j < length old.trees → id_order new.trees i j ≡ id_order old.trees i j
id_order-grown old new i j g h k =
    let a = slice_get_some old.trees i h in
    let b = slice_get_some old.trees j k in
    rw (g.trees.1, slice_get-append old.trees g.trees.0 i a.0 a.1, slice_get-append old.trees g.trees.0 j b.0 b.1, a.1, b.1) refl

pub known_at : (c : Content) (ids : List ℕ) (k d : ℕ) → AreKnown c ids → k < length ids → get_or ids k d < length c.trees
known_at c [] k d h lt = absurd (omega (arith, lt))
known_at c (i ∷ ids) zero d h lt = h.0
known_at c (i ∷ ids) (suc k) d h lt = known_at c ids k d h.1 (omega (arith, lt))

pub known_grown : (old new : Content) (ids : List ℕ) → length old.trees ≤ length new.trees → AreKnown old ids → AreKnown new ids
known_grown old new [] h k = tt
known_grown old new (i ∷ ids) h k = (omega (arith, h, k.0), known_grown old new ids h k.1)

pub sorted_grown : (old new : Content) (f : List ℕ) → IsGrown old new → AreKnown old f → IsSorted (id_order old.trees) f → IsSorted (id_order new.trees) f
sorted_grown old new f g known h = λ k d l m.
    rw (id_order-grown old new (get_or f (k + 1) d) (get_or f k d) g (known_at old f (k + 1) d known (omega arith)) (known_at old f k d known (omega arith))) (h k d l m)

pub fits_grown : (fs : List (List ℕ)) (old new : Content) → IsGrown old new → Fits fs old → Fits fs new
fits_grown fs old new g fits i f h =
    let forest = fits i f h in
    record { known = known_grown old new f (grown_length old new g) forest.known; sorted = sorted_grown old new f g forest.known forest.sorted }

-- what is said of numbers, of lists of numbers
pub sorted_numbers : (c : Content) (ids : List TreeId) → IsSorted (λ (i j : TreeId). id_order c.trees i.0 j.0) ids → IsSorted (id_order c.trees) (numbers ids)
sorted_numbers c ids h = λ k d l m.
    let long : length (numbers ids) ≡ length ids = length-map ids (λ (i : TreeId). i.0) in
    let a : k + 1 < length ids = omega arith in
    let b : k < length ids = omega arith in
    let e : TreeId = record { 0 = d } in
    rw (get_or-map (λ (i : TreeId). i.0) ids (k + 1) e d a, get_or-map (λ (i : TreeId). i.0) ids k e d b) (h k e l a)

by_index : (c : Content) (ids : List ℕ) → All (λ i. i < length c.trees) ids → AreKnown c ids
by_index c [] h = tt
by_index c (i ∷ ids) h = (h 0 0 (omega arith), by_index c ids (λ k d lt. h (suc k) d (omega (arith, lt))))

pub known_permuted : (c : Content) (xs ys : List ℕ) → IsPermutation xs ys → AreKnown c xs → AreKnown c ys
known_permuted c xs ys p h = by_index c ys (All-permutation (λ i. i < length c.trees) xs ys p (λ k d lt. known_at c xs k d h lt))

-- one more forest
pub forests_distinct : (fs more : List Forest) (f : List ℕ) → AreDistinct (forests_of fs) →
    LacksForest (forests_of fs) f → forests_of more ≡ forests_of fs ++ f ∷ [] →
    AreDistinct (forests_of more)
forests_distinct fs more f d lacks gains = rw gains (distinct-push (forests_of fs) f d lacks)

pub forest_at_end : (fs more : List Forest) (f : List ℕ) (i : ℕ) →
    forests_of more ≡ forests_of fs ++ f ∷ [] → i ≡ length fs →
    slice_get (forests_of more) i ≡ Some f
forest_at_end fs more f i gains is = let len : i ≡ length (forests_of fs) = is ∙ sym (length-map fs numbers_of) in rw (gains, len) (slice_get-end (forests_of fs) f)

pub forest_found : (fs : List (List ℕ)) (i : ℕ) (f : List ℕ) → slice_get fs i ≡ Some f → forest_at fs i ≡ f
forest_found fs i f h = get_or-slice_get fs i [] f h

pub fits_with : (old new : List (List ℕ)) (c : Content) (ids f : List ℕ) → Fits old c → AreKnown c ids → IsSorting c ids f → IsGrownWith old new f → Fits new c
fits_with old new c ids f fits known sorting grown i g h =
    let forest : IsForest c f = record { known = known_permuted c ids f sorting.same known; sorted = sorting.sorted } in
    elim grown [
      | inl same ↦ fits i g (rw same at h)
      | inr more ↦ elim (slice_get-append_cases old f i g (rw more at h)) [ inl there ↦ fits i g there | inr last ↦ subst (IsForest c) last.1 forest ]
    ]

pub known_forest : (fs : List (List ℕ)) (c : Content) (i : ℕ) → Fits fs c → i < length fs → AreKnown c (forest_at fs i)
known_forest fs c i fits h = (fits i (forest_at fs i) (slice_get-get_or fs i [] h)).known

pub known_append : (c : Content) (xs ys : List ℕ) → AreKnown c xs → AreKnown c ys → AreKnown c (xs ++ ys)
known_append c [] ys h k = k
known_append c (x ∷ xs) ys h k = (h.0, known_append c xs ys h.1 k)

pub numbers_both : (xs ys : List TreeId) (fs : List (List ℕ)) (f g : ℕ) →
    numbers xs ≡ forest_at fs f → numbers ys ≡ forest_at fs g →
    numbers (xs ++ ys) ≡ forest_at fs f ++ forest_at fs g
numbers_both xs ys fs f g h k = map-append (λ (i : TreeId). i.0) xs ys ∙ rw (h, k) refl
