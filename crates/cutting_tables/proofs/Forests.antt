-- Canonical forests: in tree order, and a list of canonical trees in that order is one.
use Rattle.std.proofs.Common.{◌≡◌, ℕ, zero, suc, ◌+◌, ◌<◌, Bool, true, false, cond, List, [], ◌∷◌, length, get_or, map, refl, sym, ap, subst, ◌∙◌, arith, Ordering, Less, Equal, Greater}
use Rattle.std.specs.List.{AllByRecursion, insert, prefix_len}
use Rattle.std.specs.List.Sorted.{IsSorted, IsPermutation}
use Rattle.std.specs.Ordering.{is_gt, is_lt, ordering_reverse}
use Rattle.std.proofs.lemmas.List.Sorted.{IsPermutation-refl, IsPermutation-cons, IsPermutation-insert, IsPermutation-map, IsPermutation-sym, IsPermutation-trans}
use Rattle.std.proofs.lemmas.Option.{slice_get-get_or}
use Rattle.ordered_lists.proofs.Above.{asymmetric}
use Rattle.ordered_lists.proofs.Unique.{sorted_unique}
use Rattle.plain_trees.specs.Plain.{Plain, bare, tree_order}
use Rattle.plain_trees.specs.Canon.{canon, IsCanonical}
use Rattle.plain_trees.specs.Coproducts.{with_tree, canon_forest}
use Rattle.plain_trees.proofs.CanonLaws.{canon_fixed}
use Rattle.plain_trees.proofs.OrderLaws.{tree_order_total, tree_exact}
use Rattle.tree_pool.specs.Content.{Content, tree_at, IsPooled}
use Rattle.tree_pool.specs.Forests.{AreKnown, IsSorting}
use Rattle.tree_pool.proofs.ForestLaws.{sorted_trees}
use Rattle.tree_pool.proofs.Ids.{known_permuted}

abbrev gt : Plain → Plain → Bool
gt s t = is_gt (tree_order s t)

abbrev IsAtMostNext : Plain → List Plain → Type 0
IsAtMostNext t [] = Unit {0}
IsAtMostNext t (u ∷ us) = gt t u ≡ false

abbrev Ascends : List Plain → Type 0
Ascends [] = Unit {0}
Ascends (t ∷ ts) = IsAtMostNext t ts × Ascends ts

next-with_tree : (t u : Plain) (us : List Plain) → gt t u ≡ true → IsAtMostNext u us → IsAtMostNext u (with_tree t us)
next-with_tree t u [] h n = asymmetric tree_order tree_order_total t u h
next-with_tree t u (v ∷ us) h n = elim (gt t v) as (λ b. IsAtMostNext u (cond b (v ∷ with_tree t us) (t ∷ v ∷ us)))
    [ true ↦ n | false ↦ asymmetric tree_order tree_order_total t u h ]

with_tree-ascends : (t : Plain) (us : List Plain) → Ascends us → Ascends (with_tree t us)
with_tree-ascends t [] a = (tt, tt)
with_tree-ascends t (u ∷ us) a =
    (elim (gt t u) as (λ b. gt t u ≡ b → Ascends (cond b (u ∷ with_tree t us) (t ∷ u ∷ us))) [
      | true ↦ λ h. (next-with_tree t u us h a.0, with_tree-ascends t us a.1)
      | false ↦ λ h. (h, a)
    ]) refl

forest-ascends : (ts : List Plain) → Ascends (canon_forest ts)
forest-ascends [] = tt
forest-ascends (t ∷ ts) = with_tree-ascends (canon t) (canon_forest ts) (forest-ascends ts)

turned : (o : Ordering) → is_gt o ≡ false → is_lt (ordering_reverse o) ≡ false
turned Less h = refl
turned Equal h = refl
turned Greater h = absurd cc

ascends-at : (ts : List Plain) → Ascends ts → (k : ℕ) (d : Plain) → k + 1 < length ts → is_lt (tree_order (get_or ts (k + 1) d) (get_or ts k d)) ≡ false
ascends-at [] a k d h = absurd (omega (arith, h))
ascends-at (t ∷ []) a k d h = absurd (omega (arith, h))
ascends-at (t ∷ u ∷ ts) a zero d h = ap is_lt (tree_order_total.antisymm u t) ∙ turned (tree_order t u) a.0
ascends-at (t ∷ u ∷ ts) a (suc k) d h =
    let one : suc k + 1 ≡ suc (k + 1) = omega arith in
    ap (λ (i : ℕ). is_lt (tree_order (get_or (t ∷ u ∷ ts) i d) (get_or (u ∷ ts) k d))) one ∙ ascends-at (u ∷ ts) a.1 k d (omega (arith, h))

forest-sorted : (ts : List Plain) → IsSorted tree_order (canon_forest ts)
forest-sorted ts = λ k d low high. ascends-at (canon_forest ts) (forest-ascends ts) k d high

-- a forest has the trees of the list
with_tree-insert : (t : Plain) (us : List Plain) → with_tree t us ≡ insert us (prefix_len (gt t) us) t
with_tree-insert t [] = refl
with_tree-insert t (u ∷ us) =
    elim (gt t u) as (λ b. cond b (u ∷ with_tree t us) (t ∷ u ∷ us) ≡ insert (u ∷ us) (cond b (1 + prefix_len (gt t) us) 0) t) [
      | true ↦ let one : 1 + prefix_len (gt t) us ≡ suc (prefix_len (gt t) us) = omega arith in rw one (ap (λ vs. u ∷ vs) (with_tree-insert t us))
      | false ↦ refl
    ]

forest-permutation : (ts : List Plain) → AllByRecursion IsCanonical ts → IsPermutation ts (canon_forest ts)
forest-permutation [] a = IsPermutation-refl []
forest-permutation (t ∷ ts) a =
    let rest = IsPermutation-cons t ts (canon_forest ts) (forest-permutation ts a.1) in
    let put = subst (IsPermutation (t ∷ canon_forest ts)) (sym (with_tree-insert t (canon_forest ts)))
    (IsPermutation-insert (canon_forest ts) (prefix_len (gt t) (canon_forest ts)) t) in
    let same = subst (λ u. IsPermutation (t ∷ canon_forest ts) (with_tree u (canon_forest ts))) (sym (canon_fixed t a.0)) put in
    IsPermutation-trans (t ∷ ts) (t ∷ canon_forest ts) (with_tree (canon t) (canon_forest ts)) rest same

pub sorted_forest : (ts us : List Plain) → AllByRecursion IsCanonical ts → IsSorted tree_order us → IsPermutation ts us → canon_forest ts ≡ us
sorted_forest ts us a h p =
    sorted_unique tree_order tree_order_total tree_exact (canon_forest ts) us (forest-sorted ts) h
    (IsPermutation-trans (canon_forest ts) ts us (IsPermutation-sym ts (canon_forest ts) (forest-permutation ts a)) p)

-- of trees of a pool
known_canonical : (c : Content) (ids : List ℕ) → IsPooled c → AreKnown c ids → AllByRecursion IsCanonical (map (tree_at c) ids)
known_canonical c [] pool known = tt
known_canonical c (i ∷ ids) pool known = (
  (pool.kept i (tree_at c i) (slice_get-get_or c.trees i (bare []) known.0)).canonical,
  known_canonical c ids pool known.1,
)

pub sorted_pool_forest : (c : Content) (ids f : List ℕ) → IsPooled c → AreKnown c ids → IsSorting c ids f →
    map (tree_at c) f ≡ canon_forest (map (tree_at c) ids)
sorted_pool_forest c ids f pool known s =
    sym (sorted_forest (map (tree_at c) ids) (map (tree_at c) f) (known_canonical c ids pool known)
    (sorted_trees c f (known_permuted c ids f s.same known) s.sorted) (IsPermutation-map (tree_at c) ids f s.same))
