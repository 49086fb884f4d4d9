-- Lists in which no member stands twice.
use Rattle.std.proofs.Common.{◌≡◌, ℕ, zero, suc, ◌+◌, ◌<◌, ◌≤◌, List, [], ◌∷◌, ◌++◌, length, map, flat_map, refl, sym, ap, subst, ◌∙◌, inl, inr, arith, length-append, Ordering, Less, Equal, Greater}
use Rattle.std.specs.Cmp.{IsTotalOrder}
use Rattle.std.specs.FinMap.{IsAntisymmetric}
use Rattle.ordered_lists.specs.Members.{IsIn}
use Rattle.ordered_lists.specs.Subs.{count_of}
use Rattle.ordered_lists.proofs.Members.{from_append, from_map, from_flat_map}
use Rattle.ordered_lists.proofs.Unique.{own}
use Rattle.exact_sums.specs.Sums.{total}
use Rattle.multiplicities.proofs.Grouping.{unit_is}
use Rattle.multiplicities.specs.Distinct.{with_new, distinct_by, AreDistinct}

pub distinct_append : {X : Type 0} (xs ys : List X) → AreDistinct xs → AreDistinct ys → ((x : X) → IsIn x xs → IsIn x ys → ⊥) → AreDistinct (xs ++ ys)
distinct_append [] ys d e apart = e
distinct_append (x ∷ xs) ys d e apart =
    ((λ h. elim (from_append x xs ys h) [ inl a ↦ d.0 a | inr b ↦ apart x (inl refl) b ]), distinct_append xs ys d.1 e (λ y h k. apart y (inr h) k))

pub distinct_map : {X Y : Type 0} (f : X → Y) (xs : List X) → ((x y : X) → f x ≡ f y → x ≡ y) → AreDistinct xs → AreDistinct (map f xs)
distinct_map f [] injective d = tt
distinct_map f (x ∷ xs) injective d =
    ((λ h. let m = from_map f (f x) xs h in d.0 (subst (λ z. IsIn z xs) (injective m.0 x m.2) m.1)), distinct_map f xs injective d.1)

-- the lists that different members give have no member in common
pub distinct_flat_map : {X Y : Type 0} (f : X → List Y) (key : Y → X) (xs : List X) →
    ((x : X) → IsIn x xs → AreDistinct (f x)) →
    ((x : X) (y : Y) → IsIn x xs → IsIn y (f x) → key y ≡ x) → AreDistinct xs →
    AreDistinct (flat_map f xs)
distinct_flat_map f key [] each keyed d = tt
distinct_flat_map f key (x ∷ xs) each keyed d =
    distinct_append (f x) (flat_map f xs) (each x (inl refl)) (distinct_flat_map f key xs (λ y h. each y (inr h)) (λ y z h k. keyed y z (inr h) k) d.1)
    (λ y h k. let m = from_flat_map f y xs k in
    let same : m.0 ≡ x = sym (keyed m.0 y (inr m.1) m.2) ∙ keyed x y (inl refl) h in
    d.0 (subst (λ z. IsIn z xs) same m.1))

pub length-flat_map : {X Y : Type 0} (f : X → List Y) (xs : List X) → length (flat_map f xs) ≡ total (λ x. length (f x)) xs
length-flat_map f [] = refl
length-flat_map f (x ∷ xs) = length-append (f x) (flat_map f xs) ∙ ap (λ (n : ℕ). length (f x) + n) (length-flat_map f xs)

-- a list without one of its members
abbrev without : {X : Type 0} (x : X) (xs : List X) → IsIn x xs → List X
without x [] h = absurd h
without x (y ∷ ys) h = elim h [ inl e ↦ ys | inr r ↦ y ∷ without x ys r ]

without-length : {X : Type 0} (x : X) (xs : List X) (h : IsIn x xs) → length xs ≡ 1 + length (without x xs h)
without-length x [] h = absurd h
without-length x (y ∷ ys) h = elim h as (λ h. length (y ∷ ys) ≡ 1 + length (without x (y ∷ ys) h)) [ inl e ↦ omega arith | inr r ↦ omega (arith, without-length x ys r) ]

without-others : {X : Type 0} (x z : X) (xs : List X) (h : IsIn x xs) → (x ≡ z → ⊥) → IsIn z xs → IsIn z (without x xs h)
without-others x z [] h other k = absurd h
without-others x z (y ∷ ys) h other k =
    elim h as (λ h. IsIn z (without x (y ∷ ys) h)) [
      | inl e ↦ elim k [ inl q ↦ absurd (other (sym e ∙ q)) | inr r ↦ r ]
      | inr s ↦ elim k [ inl q ↦ inl q | inr r ↦ inr (without-others x z ys s other r) ]
    ]

-- distinct members that all stand in another list are no more than its members
pub distinct_length : {X : Type 0} (xs ys : List X) → AreDistinct xs → ((x : X) → IsIn x xs → IsIn x ys) → length xs ≤ length ys
distinct_length [] ys d within = omega arith
distinct_length (x ∷ xs) ys d within =
    let h = within x (inl refl) in
    omega (arith, without-length x ys h, distinct_length xs (without x ys h) d.1 (λ z k. without-others x z ys h (λ e. d.0 (subst (λ w. IsIn w xs) (sym e) k)) (within z (inr k))))

-- the distinct members of a list
module _ {X : Type 0} (R : X → X → Ordering) (o : IsTotalOrder R) (exact : IsAntisymmetric R) where
  pub member_counts : (x : X) (xs : List X) → IsIn x xs → 0 < count_of R x xs
  member_counts x [] h = absurd h
  member_counts x (y ∷ ys) h = elim h [ inl e ↦ subst (λ z. 0 < count_of R x (z ∷ ys)) (sym e) (omega (arith, own R o x)) | inr r ↦ omega (arith, member_counts x ys r) ]

  pub from_distinct : (x : X) (xs : List X) → IsIn x (distinct_by R xs) → IsIn x xs
  from_distinct x [] h = h
  from_distinct x (y ∷ ys) h =
      (elim (count_of R y ys) as (λ n. IsIn x (with_new n y (distinct_by R ys)) → IsIn x (y ∷ ys)) [
        | zero ↦ λ k. elim k [ inl e ↦ inl e | inr r ↦ inr (from_distinct x ys r) ]
        | suc n ↦ λ k. inr (from_distinct x ys k)
      ]) h

  counted_member : (x : X) (xs : List X) → 0 < count_of R x xs → IsIn x xs
  counted_member x [] h = absurd (omega arith)
  counted_member x (y ∷ ys) h =
      (elim (R x y) as (λ r. R x y ≡ r → IsIn x (y ∷ ys)) [
        | Less ↦ λ e. inr (counted_member x ys (omega (arith, h, unit_is (R x y) (λ k. absurd cc))))
        | Equal ↦ λ e. inl (sym (exact x y e))
        | Greater ↦ λ e. inr (counted_member x ys (omega (arith, h, unit_is (R x y) (λ k. absurd cc))))
      ]) refl

  pub in_distinct : (x : X) (xs : List X) → IsIn x xs → IsIn x (distinct_by R xs)
  in_distinct x [] h = h
  in_distinct x (y ∷ ys) h =
      (elim (count_of R y ys) as (λ n. count_of R y ys ≡ n → IsIn x (with_new n y (distinct_by R ys))) [
        | zero ↦ λ e. elim h [ inl q ↦ inl q | inr r ↦ inr (in_distinct x ys r) ]
        | suc n ↦ λ e. elim h [ inl q ↦ in_distinct x ys (subst (λ z. IsIn z ys) q (counted_member y ys (omega (arith, e)))) | inr r ↦ in_distinct x ys r ]
      ]) refl

  pub distinct_distinct : (xs : List X) → AreDistinct (distinct_by R xs)
  distinct_distinct [] = tt
  distinct_distinct (x ∷ xs) =
      (elim (count_of R x xs) as (λ n. count_of R x xs ≡ n → AreDistinct (with_new n x (distinct_by R xs))) [
        | zero ↦ λ e. ((λ h. absurd (omega (arith, e, member_counts x xs (from_distinct x xs h)))), distinct_distinct xs)
        | suc n ↦ λ e. distinct_distinct xs
      ]) refl
