-- Sorted lists of distinct members: what stands in one after members are put in, and that its
-- members determine it.
use Rattle.std.proofs.Common.{◌≡◌, List, [], ◌∷◌, refl, ap, sym, ◌∙◌, subst, inl, inr, ◌⊎◌}
use Rattle.std.specs.declared.cmp.Ordering.{Ordering}
use Rattle.std.specs.declared.cmp.Ordering.TheVariants.{Less, Equal, Greater}
use Rattle.std.specs.List.{AllByRecursion}
use Rattle.std.specs.List.Sorted.{IsStrictlySortedBy}
use Rattle.std.specs.Cmp.{IsTotalOrder}
use Rattle.std.specs.FinMap.{IsAntisymmetric}
use Rattle.std.specs.BTreeSet.{insert_key}
use Rattle.std.specs.Ordering.{match_ordering, ordering_reverse}
use Rattle.std.proofs.lemmas.Cmp.{tied_itself}
use Rattle.ordered_lists.specs.Members.{IsIn, insert_all}

pub from_insert_key : {K : Type 0} (c : K → K → Ordering) (ks : List K) (k n : K) → IsIn n (insert_key c ks k) → IsIn n ks ⊎ (k ≡ n)
from_insert_key c [] k n h = elim h [ inl e ↦ inr e | inr none ↦ absurd none ]
from_insert_key {K} c (x ∷ xs) k n h =
    (elim (c k x) as (λ o. IsIn n (match_ordering o (k ∷ x ∷ xs) (x ∷ xs) (x ∷ insert_key c xs k)) → IsIn n (x ∷ xs) ⊎ (k ≡ n)) [
      | Less ↦ λ g. elim g [ inl e ↦ inr e | inr r ↦ inl r ]
      | Equal ↦ λ g. inl g
      | Greater ↦ λ g. elim g [ inl e ↦ inl (inl e) | inr r ↦ elim (from_insert_key c xs k n r) [ inl a ↦ inl (inr a) | inr b ↦ inr b ] ]
    ]) h

pub insert_key_old : {K : Type 0} (c : K → K → Ordering) (ks : List K) (k n : K) → IsIn n ks → IsIn n (insert_key c ks k)
insert_key_old c [] k n h = absurd h
insert_key_old c (x ∷ xs) k n h =
    elim (c k x) as (λ o. IsIn n (match_ordering o (k ∷ x ∷ xs) (x ∷ xs) (x ∷ insert_key c xs k))) [
      | Less ↦ inr h
      | Equal ↦ h
      | Greater ↦ elim h [ inl e ↦ inl e | inr r ↦ inr (insert_key_old c xs k n r) ]
    ]

pub insert_key_new : {K : Type 0} (c : K → K → Ordering) → IsAntisymmetric c → (ks : List K) (k : K) → IsIn k (insert_key c ks k)
insert_key_new c exact [] k = inl refl
insert_key_new {K} c exact (x ∷ xs) k =
    (elim (c k x) as (λ o. c k x ≡ o → IsIn k (match_ordering o (k ∷ x ∷ xs) (x ∷ xs) (x ∷ insert_key c xs k))) [
      | Less ↦ λ e. inl refl
      | Equal ↦ λ e. inl (sym (exact k x e))
      | Greater ↦ λ e. inr (insert_key_new c exact xs k)
    ]) refl

-- a key below the first is below all
pub below_all : {K : Type 0} (c : K → K → Ordering) → IsTotalOrder c → (k x : K) (xs : List K) →
    c k x ≡ Less → AllByRecursion (λ y. c x y ≡ Less) xs → AllByRecursion (λ y. c k y ≡ Less) xs
below_all c o k x [] e h = tt
below_all c o k x (y ∷ ys) e h = (o.trans k x y e h.0, below_all c o k x ys e h.1)

above_insert_key : {K : Type 0} (c : K → K → Ordering) (x k : K) (xs : List K) → c x k ≡ Less →
    AllByRecursion (λ y. c x y ≡ Less) xs → AllByRecursion (λ y. c x y ≡ Less) (insert_key c xs k)
above_insert_key c x k [] e h = (e, tt)
above_insert_key c x k (y ∷ ys) e h =
    elim (c k y) as (λ o. AllByRecursion (λ z. c x z ≡ Less) (match_ordering o (k ∷ y ∷ ys) (y ∷ ys) (y ∷ insert_key c ys k))) [
      | Less ↦ (e, h)
      | Equal ↦ h
      | Greater ↦ (h.0, above_insert_key c x k ys e h.1)
    ]

pub insert_key_sorted : {K : Type 0} (c : K → K → Ordering) → IsTotalOrder c →
    (ks : List K) (k : K) → IsStrictlySortedBy c ks → IsStrictlySortedBy c (insert_key c ks k)
unfolding IsStrictlySortedBy
insert_key_sorted c o [] k h = (tt, tt)
insert_key_sorted c o (x ∷ xs) k h =
    (elim (c k x) as (λ r. c k x ≡ r → IsStrictlySortedBy c (match_ordering r (k ∷ x ∷ xs) (x ∷ xs) (x ∷ insert_key c xs k))) [
      | Less ↦ λ e. ((e, below_all c o k x xs e h.0), h)
      | Equal ↦ λ e. h
      | Greater ↦ λ e. (above_insert_key c x k xs (o.antisymm x k ∙ ap ordering_reverse e) h.0, insert_key_sorted c o xs k h.1)
    ]) refl

-- the same for many keys
pub from_insert_all : {K : Type 0} (c : K → K → Ordering) (ks ns : List K) (n : K) → IsIn n (insert_all c ks ns) → IsIn n ks ⊎ IsIn n ns
from_insert_all c ks [] n h = inl h
from_insert_all c ks (x ∷ xs) n h =
    elim (from_insert_all c (insert_key c ks x) xs n h) [ inl a ↦ elim (from_insert_key c ks x n a) [ inl old ↦ inl old | inr new ↦ inr (inl new) ] | inr b ↦ inr (inr b) ]

pub insert_all_old : {K : Type 0} (c : K → K → Ordering) (ks ns : List K) (n : K) → IsIn n ks → IsIn n (insert_all c ks ns)
insert_all_old c ks [] n h = h
insert_all_old c ks (x ∷ xs) n h = insert_all_old c (insert_key c ks x) xs n (insert_key_old c ks x n h)

pub insert_all_new : {K : Type 0} (c : K → K → Ordering) → IsAntisymmetric c → (ks ns : List K) (n : K) → IsIn n ns → IsIn n (insert_all c ks ns)
insert_all_new c exact ks [] n h = absurd h
insert_all_new c exact ks (x ∷ xs) n h =
    elim h [ inl e ↦ insert_all_old c (insert_key c ks x) xs n (subst (λ y. IsIn y (insert_key c ks x)) e (insert_key_new c exact ks x)) | inr r ↦ insert_all_new c exact (insert_key c ks x) xs n r ]

pub insert_all_sorted : {K : Type 0} (c : K → K → Ordering) → IsTotalOrder c → (ks ns : List K) →
    IsStrictlySortedBy c ks → IsStrictlySortedBy c (insert_all c ks ns)
insert_all_sorted c o ks [] h = h
insert_all_sorted c o ks (x ∷ xs) h = insert_all_sorted c o (insert_key c ks x) xs (insert_key_sorted c o ks x h)

pub all_at_member : {K : Type 0} (P : K → Type 0) (xs : List K) (n : K) → AllByRecursion P xs → IsIn n xs → P n
all_at_member P [] n a h = absurd h
all_at_member P (x ∷ xs) n a h = elim h [ inl e ↦ subst P e a.0 | inr r ↦ all_at_member P xs n a.1 r ]

pub not_below_itself : {K : Type 0} (c : K → K → Ordering) → IsTotalOrder c → (x : K) → c x x ≡ Less → ⊥
not_below_itself c o x e = let t = tied_itself o x in cc

-- a first key that is below the first of another list does not stand in it
pub missing : {K : Type 0} (c : K → K → Ordering) → IsTotalOrder c → (x y : K) (ys : List K) →
    c x y ≡ Less → AllByRecursion (λ z. c y z ≡ Less) ys → IsIn x (y ∷ ys) → ⊥
missing {K} c o x y ys e a h =
    elim h [
      | inl q ↦ not_below_itself c o x (subst (λ (z : K). c x z ≡ Less) q e)
      | inr r ↦ not_below_itself c o x (o.trans x y x e (all_at_member (λ z. c y z ≡ Less) ys x a r))
    ]

-- the members of the rest
pub rest_in : {K : Type 0} (c : K → K → Ordering) → IsTotalOrder c → (x y n : K) (xs ys : List K) →
    x ≡ y → AllByRecursion (λ z. c x z ≡ Less) xs → IsIn n xs → IsIn n (y ∷ ys) → IsIn n ys
rest_in {K} c o x y n xs ys e a h g =
    elim g [
      | inl q ↦ absurd (not_below_itself c o x (subst (λ (z : K). c x z ≡ Less) (sym q ∙ sym e) (all_at_member (λ z. c x z ≡ Less) xs n a h)))
      | inr r ↦ r
    ]

pub strictly_sorted_unique : {K : Type 0} (c : K → K → Ordering) → IsTotalOrder c →
    IsAntisymmetric c → (xs ys : List K) → IsStrictlySortedBy c xs → IsStrictlySortedBy c ys
    → ((n : K) → IsIn n xs → IsIn n ys) → ((n : K) → IsIn n ys → IsIn n xs) → xs ≡ ys
unfolding IsStrictlySortedBy
strictly_sorted_unique c o exact [] [] s r f g = refl
strictly_sorted_unique c o exact [] (y ∷ ys) s r f g = absurd (g y (inl refl))
strictly_sorted_unique c o exact (x ∷ xs) [] s r f g = absurd (f x (inl refl))
strictly_sorted_unique {K} c o exact (x ∷ xs) (y ∷ ys) s r f g =
    (elim (c x y) as (λ d. c x y ≡ d → x ∷ xs ≡ y ∷ ys) [
      | Less ↦ λ e. absurd (missing c o x y ys e r.0 (f x (inl refl)))
      | Equal ↦ λ e.
          let q : x ≡ y = exact x y e in
          let rest = strictly_sorted_unique c o exact xs ys s.1 r.1
          (λ n h. rest_in c o x y n xs ys q s.0 h (f n (inr h)))
          (λ n h. rest_in c o y x n ys xs (sym q) r.0 h (g n (inr h))) in
          ap (λ (z : K). z ∷ xs) q ∙ ap (λ (zs : List K). y ∷ zs) rest
      | Greater ↦ λ e. absurd (missing c o y x xs (o.antisymm y x ∙ ap ordering_reverse e) s.0 (g y (inl refl)))
    ]) refl
