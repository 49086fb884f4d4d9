-- Two sorted lists with the same elements are equal, by the counts of the elements, where the order
-- is exact.
use Rattle.std.proofs.Common.{◌≡◌, ℕ, ◌+◌, suc, false, cond, List, [], ◌∷◌, refl, sym, ap, ◌∙◌, arith, Ordering, Less, Equal, Greater, is_lt}
use Rattle.std.specs.Ordering.{ordering_reverse, is_eq}
use Rattle.std.specs.Cmp.{IsTotalOrder}
use Rattle.std.specs.List.{sum_by}
use Rattle.std.specs.List.Sorted.{IsSorted, IsPermutation}
use Rattle.std.proofs.lemmas.List.Sums.{sum_by-cons}
use Rattle.std.specs.FinMap.{IsAntisymmetric}
use Rattle.ordered_lists.specs.Subs.{count_of}
use Rattle.std.proofs.lemmas.List.Sorted.{sum_by-IsPermutation}

own_equal : (a : Ordering) → a ≡ ordering_reverse a → a ≡ Equal
own_equal Less h = absurd cc
own_equal Equal h = refl
own_equal Greater h = absurd cc

module _ {X : Type 0} (R : X → X → Ordering) (o : IsTotalOrder R) where
  abbrev pub one : X → X → ℕ
  one z x = cond (is_eq (R z x)) 1 0

  count_of-sum : (z : X) (xs : List X) → sum_by (one z) xs ≡ count_of R z xs
  count_of-sum z [] = refl
  count_of-sum z (x ∷ xs) = sum_by-cons (one z) x xs ∙ ap (λ n. one z x + n) (count_of-sum z xs)

  pub sorted-rest : (x : X) (xs : List X) → IsSorted R (x ∷ xs) → IsSorted R xs
  sorted-rest x xs h = λ k d l m. let s : suc k + 1 ≡ suc (k + 1) = omega arith in rw s at (h (suc k) d (omega arith) (omega arith))

  pub sorted-next : (x y : X) (xs : List X) → IsSorted R (x ∷ y ∷ xs) → is_lt (R y x) ≡ false
  sorted-next x y xs h = h 0 x (omega arith) (omega arith)

  -- z < x ≤ y
  pub less-through : (z x y : X) (a : Ordering) → R y x ≡ a → is_lt a ≡ false → R z x ≡ Less → R z y ≡ Less
  less-through z x y Less e h k = absurd cc
  less-through z x y Equal e h k = o.antisymm z y ∙ ap ordering_reverse (o.congr y x z e ∙ o.antisymm x z ∙ ap ordering_reverse k)
  less-through z x y Greater e h k = o.trans z x y k (o.antisymm x y ∙ ap ordering_reverse e)

  pub absent : (z x : X) (xs : List X) → R z x ≡ Less → IsSorted R (x ∷ xs) → count_of R z (x ∷ xs) ≡ 0
  absent z x [] k h = rw k refl
  absent z x (y ∷ xs) k h =
      let later : count_of R z (y ∷ xs) ≡ 0 = absent z y xs (less-through z x y (R y x) refl (sorted-next x y xs h) k) (sorted-rest x (y ∷ xs) h) in
      let here : one z x ≡ 0 = ap (λ (a : Ordering). cond (is_eq a) 1 0) k in
      omega (arith, later, here)

  pub own : (x : X) → one x x ≡ 1
  own x = ap (λ (a : Ordering). cond (is_eq a) 1 0) (own_equal (R x x) (o.antisymm x x))

module _ {X : Type 0} (R : X → X → Ordering) (o : IsTotalOrder R) (exact : IsAntisymmetric R) where
  unique-at : (x y : X) (xs ys : List X) (a : Ordering) → R x y ≡ a → IsSorted R (x ∷ xs) →
      IsSorted R (y ∷ ys) → ((z : X) → count_of R z (x ∷ xs) ≡ count_of R z (y ∷ ys)) → x ≡ y
  unique-at x y xs ys Less e h k same = absurd (omega (arith, own R o x, same x, absent R o x y ys e k))
  unique-at x y xs ys Equal e h k same = exact x y e
  unique-at x y xs ys Greater e h k same = absurd (omega (arith, own R o y, same y, absent R o y x xs (o.antisymm y x ∙ ap ordering_reverse e) h))

  pub by_counts : (xs ys : List X) → IsSorted R xs → IsSorted R ys → ((z : X) → count_of R z xs ≡ count_of R z ys) → xs ≡ ys
  by_counts [] [] h k same = refl
  by_counts [] (y ∷ ys) h k same = absurd (omega (arith, own R o y, same y))
  by_counts (x ∷ xs) [] h k same = absurd (omega (arith, own R o x, same x))
  by_counts (x ∷ xs) (y ∷ ys) h k same =
      let first : x ≡ y = unique-at x y xs ys (R x y) refl h k same in
      let tails : xs ≡ ys = by_counts xs ys (sorted-rest R o x xs h) (sorted-rest R o y ys k) (λ z. omega (arith, same z, ap (one R o z) first)) in
      cc

  pub sorted_unique : (xs ys : List X) → IsSorted R xs → IsSorted R ys → IsPermutation xs ys → xs ≡ ys
  sorted_unique xs ys h k p = by_counts xs ys h k (λ z. sym (count_of-sum R o z xs) ∙ sym (sum_by-IsPermutation (one R o z) xs ys p) ∙ count_of-sum R o z ys)
