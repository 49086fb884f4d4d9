-- Sub-multisets of sorted lists by the counts of their elements.
use Rattle.std.proofs.Common.{◌≡◌, ℕ, ◌+◌, ◌<◌, ◌≤◌, suc, zero, false, cond, List, [], ◌∷◌, length, get_or, refl, sym, ap, ◌∙◌, subst, inl, inr, arith, Ordering, Less, Equal, Greater, is_lt}
use Rattle.std.specs.Ordering.{ordering_reverse, is_eq}
use Rattle.std.specs.Cmp.{IsTotalOrder}
use Rattle.std.specs.List.{AllByRecursion}
use Rattle.std.specs.List.Sorted.{IsSorted}
use Rattle.std.specs.FinMap.{IsAntisymmetric}
use Rattle.ordered_lists.specs.Subs.{IsSubMultiset, count_of}
use Rattle.ordered_lists.proofs.Unique.{own, absent, sorted-next, sorted-rest, less-through}

abbrev unit_at : Ordering → ℕ
unit_at a = cond (is_eq a) 1 0

module _ {X : Type 0} (R : X → X → Ordering) where
  abbrev one : X → X → ℕ
  one z x = unit_at (R z x)

  pub sub_counts : (ns xs : List X) → IsSubMultiset ns xs → (z : X) → count_of R z ns ≤ count_of R z xs
  sub_counts [] xs h z = omega arith
  sub_counts (n ∷ ns) [] h z = absurd h
  sub_counts (n ∷ ns) (x ∷ xs) h z =
      elim h [
        | inl taken ↦ omega (arith, ap (one z) taken.0, sub_counts ns xs taken.1 z)
        | inr left ↦ omega (arith, sub_counts (n ∷ ns) xs left z)
      ]

module _ {X : Type 0} (R : X → X → Ordering) (o : IsTotalOrder R) where
  -- a list is sorted where its first is not above the others, which are sorted
  pub sorted-cons : (x : X) (xs : List X) → IsSorted R xs → AllByRecursion (λ y. is_lt (R y x) ≡ false) xs → IsSorted R (x ∷ xs)
  sorted-cons x xs h a = λ k d l m. at x xs h a k d m
    where
      at : (x : X) (xs : List X) → IsSorted R xs → AllByRecursion (λ y. is_lt (R y x) ≡ false) xs → (k : ℕ) (d : X) → k + 1 < length (x ∷ xs) → is_lt (R (get_or (x ∷ xs) (k + 1) d) (get_or (x ∷ xs) k d)) ≡ false
      at x [] h a k d m = absurd (omega arith)
      at x (y ∷ ys) h a zero d m = a.0
      at x (y ∷ ys) h a (suc k) d m = let s : suc k + 1 ≡ suc (k + 1) = omega arith in rw s (h k d (omega arith) (omega arith))

  not_less : (a : Ordering) → (a ≡ Less → ⊥) → is_lt a ≡ false
  not_less Less h = absurd (h refl)
  not_less Equal h = refl
  not_less Greater h = refl

  -- x ≤ y ≤ z
  not_less_through : (x y z : X) → is_lt (R y x) ≡ false → is_lt (R z y) ≡ false → is_lt (R z x) ≡ false
  not_less_through x y z h k = not_less (R z x) (λ e. let s : R z y ≡ Less = less-through R o z x y (R y x) refl h e in absurd cc)

  pub first_is_least : (x : X) (xs : List X) → IsSorted R (x ∷ xs) → AllByRecursion (λ y. is_lt (R y x) ≡ false) xs
  first_is_least x [] h = tt
  first_is_least x (y ∷ ys) h =
      let n = sorted-next R o x y ys h in
      (n, weaken x y ys n (first_is_least y ys (sorted-rest R o x (y ∷ ys) h)))
    where
      weaken : (x y : X) (zs : List X) → is_lt (R y x) ≡ false → AllByRecursion (λ z. is_lt (R z y) ≡ false) zs → AllByRecursion (λ z. is_lt (R z x) ≡ false) zs
      weaken x y [] h a = tt
      weaken x y (z ∷ zs) h a = (not_less_through x y z h a.0, weaken x y zs h a.1)

  sub_all : (P : X → Type 0) (ns xs : List X) → IsSubMultiset ns xs → AllByRecursion P xs → AllByRecursion P ns
  sub_all P [] xs h a = tt
  sub_all P (n ∷ ns) [] h a = absurd h
  sub_all P (n ∷ ns) (x ∷ xs) h a =
      elim h [
        | inl taken ↦ (subst P taken.0 a.0, sub_all P ns xs taken.1 a.1)
        | inr left ↦ sub_all P (n ∷ ns) xs left a.1
      ]

  -- a sub-multiset of a sorted list is sorted
  pub sub_sorted : (ns xs : List X) → IsSubMultiset ns xs → IsSorted R xs → IsSorted R ns
  sub_sorted [] xs h s = λ k d l m. absurd (omega arith)
  sub_sorted (n ∷ ns) [] h s = absurd h
  sub_sorted (n ∷ ns) (x ∷ xs) h s =
      elim h [
        | inl taken ↦ sorted-cons n ns (sub_sorted ns xs taken.1 (sorted-rest R o x xs s))
            (subst (λ z. AllByRecursion (λ y. is_lt (R y z) ≡ false) ns) taken.0 (sub_all (λ y. is_lt (R y x) ≡ false) ns xs taken.1 (first_is_least x xs s)))
        | inr left ↦ sub_sorted (n ∷ ns) xs left (sorted-rest R o x xs s)
      ]

module _ {X : Type 0} (R : X → X → Ordering) (o : IsTotalOrder R) (exact : IsAntisymmetric R) where
  -- without an element that stands in neither more often, or that the smaller one has not
  later : (z n x : X) (ns xs : List X) → R n x ≡ Greater → IsSorted R (n ∷ ns) →
      count_of R z (n ∷ ns) ≤ count_of R z (x ∷ xs) → count_of R z (n ∷ ns) ≤ count_of R z xs
  later z n x ns xs e h le =
      (elim (R z x) as (λ (r : Ordering). R z x ≡ r → count_of R z (n ∷ ns) ≤ count_of R z xs) [
        | Less ↦ λ q. let w : one R z x ≡ 0 = ap unit_at q in omega (arith, le, w)
        | Equal ↦ λ q.
            let first : R x n ≡ Less = o.antisymm x n ∙ ap ordering_reverse e in
            let none : count_of R x (n ∷ ns) ≡ 0 = absent R o x n ns first h in
            let same : count_of R z (n ∷ ns) ≡ count_of R x (n ∷ ns) = ap (λ (y : X). count_of R y (n ∷ ns)) (exact z x q) in
            omega (arith, same, none)
        | Greater ↦ λ q. let w : one R z x ≡ 0 = ap unit_at q in omega (arith, le, w)
      ]) refl

  pub sub_from_counts : (ns xs : List X) → IsSorted R ns → IsSorted R xs → ((z : X) → count_of R z ns ≤ count_of R z xs) → IsSubMultiset ns xs
  sub_from_counts [] xs h k le = tt
  sub_from_counts (n ∷ ns) [] h k le = absurd (omega (arith, own R o n, le n))
  sub_from_counts (n ∷ ns) (x ∷ xs) h k le =
      (elim (R n x) as (λ (r : Ordering). R n x ≡ r → IsSubMultiset (n ∷ ns) (x ∷ xs)) [
        | Less ↦ λ e. absurd (omega (arith, own R o n, le n, absent R o n x xs e k))
        | Equal ↦ λ e.
            let same : n ≡ x = exact n x e in
            inl (sym same, sub_from_counts ns xs (sorted-rest R o n ns h) (sorted-rest R o x xs k) (λ z. omega (arith, le z, ap (one R z) same)))
        | Greater ↦ λ e. inr (sub_from_counts (n ∷ ns) xs h (sorted-rest R o x xs k) (λ z. later z n x ns xs e h (le z)))
      ]) refl
