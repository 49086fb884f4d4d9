-- Sums and products over the distinct members of a list, with their multiplicities: what one more
-- member changes.
use Rattle.std.proofs.Common.{◌≡◌, ℕ, zero, suc, ◌+◌, ◌*◌, ◌^◌, ◌<◌, cond, List, [], ◌∷◌, length, refl, sym, ap, subst, ◌∙◌, arith, Ordering, Less, Equal, Greater}
use Rattle.std.proofs.Math.Nat.{mul_comm, mul_assoc, pow-zero, pow-suc}
use Rattle.std.specs.Ordering.{is_eq, ordering_reverse}
use Rattle.std.specs.Cmp.{IsTotalOrder}
use Rattle.std.specs.FinMap.{IsAntisymmetric}
use Rattle.exact_sums.specs.Sums.{total, product_over}
use Rattle.exact_sums.specs.Binomials.{factorial}
use Rattle.ordered_lists.specs.Subs.{count_of}
use Rattle.ordered_lists.proofs.Unique.{own}
use Rattle.multiplicities.specs.Distinct.{with_new, distinct_by}

-- x1 op (.. op (xm op unit))
abbrev over : {X : Type 0} → (ℕ → ℕ → ℕ) → ℕ → (X → ℕ) → List X → ℕ
over op unit f [] = unit
over op unit f (x ∷ xs) = op (f x) (over op unit f xs)

over_total : {X : Type 0} (f : X → ℕ) (xs : List X) → over ◌+◌ 0 f xs ≡ total f xs
over_total f [] = refl
over_total f (x ∷ xs) = ap (λ (n : ℕ). f x + n) (over_total f xs)

over_product : {X : Type 0} (f : X → ℕ) (xs : List X) → over ◌*◌ 1 f xs ≡ product_over f xs
over_product f [] = refl
over_product f (x ∷ xs) = ap (λ (n : ℕ). f x * n) (over_product f xs)

abbrev pub unit_at : Ordering → ℕ
unit_at r = cond (is_eq r) 1 0

pub unit_is : (o : Ordering) → (o ≡ Equal → ⊥) → unit_at o ≡ 0
unit_is Less h = refl
unit_is Equal h = absurd (h refl)
unit_is Greater h = refl

unit_equal : (o : Ordering) → o ≡ Equal → unit_at o ≡ 1
unit_equal o h = rw h refl

module _ {X : Type 0} (R : X → X → Ordering) (o : IsTotalOrder R) (exact : IsAntisymmetric R) where
  turned : (x y : X) → (R x y ≡ Equal → ⊥) → R y x ≡ Equal → ⊥
  turned x y h k = h (o.antisymm x y ∙ ap ordering_reverse k)

  -- how often the members stand among the distinct ones
  pub none_distinct : (z : X) (xs : List X) → count_of R z xs ≡ 0 → count_of R z (distinct_by R xs) ≡ 0
  none_distinct z [] h = refl
  none_distinct z (x ∷ xs) h =
      let rest : count_of R z (distinct_by R xs) ≡ 0 = none_distinct z xs (omega (arith, h)) in
      elim (count_of R x xs) as (λ n. count_of R z (with_new n x (distinct_by R xs)) ≡ 0) [
        | zero ↦ omega (arith, h, rest)
        | suc n ↦ rest
      ]

  once-other : (z x : X) (xs : List X) → (R z x ≡ Equal → ⊥) → count_of R z (distinct_by R xs) ≡ 1 → count_of R z (distinct_by R (x ∷ xs)) ≡ 1
  once-other z x xs h once =
      elim (count_of R x xs) as (λ n. count_of R z (with_new n x (distinct_by R xs)) ≡ 1) [
        | zero ↦ omega (arith, unit_is (R z x) h, once)
        | suc n ↦ once
      ]

  once-here : (x : X) (xs : List X) → (0 < count_of R x xs → count_of R x (distinct_by R xs) ≡ 1) → count_of R x (distinct_by R (x ∷ xs)) ≡ 1
  once-here x xs later =
      (elim (count_of R x xs) as (λ n. count_of R x xs ≡ n → count_of R x (with_new n x (distinct_by R xs)) ≡ 1) [
        | zero ↦ λ e. omega (arith, own R o x, none_distinct x xs e)
        | suc n ↦ λ e. later (omega (arith, e))
      ]) refl

  pub once_distinct : (z : X) (xs : List X) → 0 < count_of R z xs → count_of R z (distinct_by R xs) ≡ 1
  once_distinct z [] h = absurd (omega arith)
  once_distinct z (x ∷ xs) h =
      (elim (R z x) as (λ r. R z x ≡ r → count_of R z (distinct_by R (x ∷ xs)) ≡ 1) [
        | Less ↦ λ e. once-other z x xs (λ k. absurd cc) (once_distinct z xs (omega (arith, h, ap (λ (r : Ordering). unit_at r) e)))
        | Equal ↦ λ e. subst (λ (y : X). count_of R y (distinct_by R (x ∷ xs)) ≡ 1) (sym (exact z x e)) (once-here x xs (once_distinct x xs))
        | Greater ↦ λ e. once-other z x xs (λ k. absurd cc) (once_distinct z xs (omega (arith, h, ap (λ (r : Ordering). unit_at r) e)))
      ]) refl

-- one member more, in any sum of one value for each distinct member
module _ {X : Type 0} (R : X → X → Ordering) (o : IsTotalOrder R) (exact : IsAntisymmetric R)
    (op : ℕ → ℕ → ℕ) (unit : ℕ) (assoc : (a b c : ℕ) → op (op a b) c ≡ op a (op b c)) (comm : (a b : ℕ) → op a b ≡ op b a) (right : (a : ℕ) → op a unit ≡ a) where
  over_same : (h g : X → ℕ) (z : X) (ds : List X) → count_of R z ds ≡ 0 → ((y : X) → (R z y ≡ Equal → ⊥) → h y ≡ g y) → over op unit h ds ≡ over op unit g ds
  over_same h g z [] none same = refl
  over_same h g z (y ∷ ys) none same =
      let here : h y ≡ g y = same y (λ e. absurd (omega (arith, unit_equal (R z y) e, none))) in
      rw (here, over_same h g z ys (omega (arith, none)) same) refl

  exchange : (r a b : ℕ) → op a (op r b) ≡ op r (op a b)
  exchange r a b = sym (assoc a r b) ∙ ap (λ (n : ℕ). op n b) (comm a r) ∙ assoc r a b

  over_once : (h g : X → ℕ) (r : ℕ) (z : X) (ds : List X) → count_of R z ds ≡ 1 → h z ≡ op r (g z) →
      ((y : X) → (R z y ≡ Equal → ⊥) → h y ≡ g y) → over op unit h ds ≡ op r (over op unit g ds)
  over_once h g r z [] once at same = absurd (omega (arith, once))
  over_once h g r z (y ∷ ys) once at same =
      (elim (R z y) as (λ q. R z y ≡ q → over op unit h (y ∷ ys) ≡ op r (over op unit g (y ∷ ys))) [
        | Less ↦ λ e. pass (λ k. absurd cc) (over_once h g r z ys (omega (arith, once, unit_is (R z y) (λ k. absurd cc))) at same)
        | Equal ↦ λ e.
            let here : h y ≡ op r (g y) = subst (λ (x : X). h x ≡ op r (g x)) (exact z y e) at in
            let rest : over op unit h ys ≡ over op unit g ys = over_same h g z ys (omega (arith, once, unit_equal (R z y) e)) same in
            rw (here, rest) (assoc r (g y) (over op unit g ys))
        | Greater ↦ λ e. pass (λ k. absurd cc) (over_once h g r z ys (omega (arith, once, unit_is (R z y) (λ k. absurd cc))) at same)
      ]) refl
    where
      pass : (R z y ≡ Equal → ⊥) → over op unit h ys ≡ op r (over op unit g ys) → over op unit h (y ∷ ys) ≡ op r (over op unit g (y ∷ ys))
      pass other ih = rw (same y other, ih) (exchange r (g y) (over op unit g ys))

  grouping_step : (f r : X → ℕ → ℕ) → ((y : X) → f y 0 ≡ unit) → ((y : X) (n : ℕ) → f y (suc n) ≡ op (r y n) (f y n)) → (x : X) (xs : List X) →
      over op unit (λ y. f y (count_of R y (x ∷ xs))) (distinct_by R (x ∷ xs)) ≡ op (r x (count_of R x xs)) (over op unit (λ y. f y (count_of R y xs)) (distinct_by R xs))
  grouping_step f r start step x xs =
      (elim (count_of R x xs) as (λ n. count_of R x xs ≡ n → over op unit h (with_new n x (distinct_by R xs)) ≡ op (r x n) (over op unit g (distinct_by R xs))) [
        | zero ↦ λ e.
            let first : h x ≡ op (r x 0) unit = at ∙ rw e (ap (op (r x 0)) (start x)) in
            rw (first, over_same h g x (distinct_by R xs) (none_distinct R o exact x xs e) others, right (r x 0)) refl
        | suc n ↦ λ e. over_once h g (r x (suc n)) x (distinct_by R xs) (once_distinct R o exact x xs (omega (arith, e))) (at ∙ rw e refl) others
      ]) refl
    where
      h : X → ℕ
      h y = f y (count_of R y (x ∷ xs))

      g : X → ℕ
      g y = f y (count_of R y xs)

      at : h x ≡ op (r x (count_of R x xs)) (f x (count_of R x xs))
      at = let one_more : count_of R x (x ∷ xs) ≡ suc (count_of R x xs) = omega (arith, own R o x) in ap (f x) one_more ∙ step x (count_of R x xs)

      others : (y : X) → (R x y ≡ Equal → ⊥) → h y ≡ g y
      others y k = let none : count_of R y (x ∷ xs) ≡ count_of R y xs = omega (arith, unit_is (R y x) (turned R o exact x y k)) in ap (f y) none

-- the multiplicities add up to the length
module _ {X : Type 0} (R : X → X → Ordering) (o : IsTotalOrder R) (exact : IsAntisymmetric R) where
  pub total_multiplicities : (xs : List X) → total (λ y. count_of R y xs) (distinct_by R xs) ≡ length xs
  total_multiplicities [] = refl
  total_multiplicities (x ∷ xs) =
      sym (over_total (λ y. count_of R y (x ∷ xs)) (distinct_by R (x ∷ xs)))
      ∙ grouping_step R o exact ◌+◌ 0 (λ a b c. omega arith) (λ a b. omega arith) (λ a. omega arith) (λ y n. n) (λ y n. 1) (λ y. refl) (λ y n. omega arith) x xs
      ∙ ap (λ (n : ℕ). 1 + n) (over_total (λ y. count_of R y xs) (distinct_by R xs) ∙ total_multiplicities xs)
      ∙ omega arith

  -- g to the multiplicity, times the factorial of the multiplicity
  abbrev pub power_product : (X → ℕ) → List X → ℕ
  power_product g xs = product_over (λ y. g y ^ count_of R y xs * factorial (count_of R y xs)) (distinct_by R xs)

  power_step : (a n : ℕ) → a ^ suc n * factorial (suc n) ≡ a * suc n * (a ^ n * factorial n)
  unfolding factorial
  power_step a n = rw (pow-suc a n) (omega arith)

  pub power_product-cons : (g : X → ℕ) (x : X) (xs : List X) → power_product g (x ∷ xs) ≡ g x * suc (count_of R x xs) * power_product g xs
  unfolding factorial
  power_product-cons g x xs =
      sym (over_product (λ y. g y ^ count_of R y (x ∷ xs) * factorial (count_of R y (x ∷ xs))) (distinct_by R (x ∷ xs)))
      ∙ grouping_step R o exact ◌*◌ 1 mul_assoc mul_comm (λ a. omega arith) (λ y n. g y ^ n * factorial n) (λ y n. g y * suc n) (λ y. omega (arith, pow-zero (g y))) (λ y n. power_step (g y) n) x xs
      ∙ ap (λ (n : ℕ). g x * suc (count_of R x xs) * n) (over_product (λ y. g y ^ count_of R y xs * factorial (count_of R y xs)) (distinct_by R xs))
