-- How long sorted lists of distinct members are.
use Rattle.std.proofs.Common.{◌≡◌, ◌≤◌, List, [], ◌∷◌, length, refl, ap, ◌∙◌, inl, inr, subst, arith, Ordering, Less, Equal, Greater}
use Rattle.std.specs.Cmp.{IsTotalOrder}
use Rattle.std.specs.FinMap.{IsAntisymmetric}
use Rattle.std.specs.BTreeSet.{insert_key}
use Rattle.std.specs.List.Sorted.{IsStrictlySortedBy}
use Rattle.std.specs.Ordering.{match_ordering, ordering_reverse}
use Rattle.ordered_lists.specs.Members.{IsIn, insert_all}
use Rattle.ordered_lists.proofs.Insertion.{missing, rest_in}

pub length-insert_key : {K : Type 0} (c : K → K → Ordering) (ks : List K) (k : K) → length ks ≤ length (insert_key c ks k)
length-insert_key c [] k = omega arith
length-insert_key {K} c (x ∷ xs) k =
    elim (c k x) as (λ o. length (x ∷ xs) ≤ length (match_ordering o (k ∷ x ∷ xs) (x ∷ xs) (x ∷ insert_key c xs k))) [
      | Less ↦ omega arith
      | Equal ↦ omega arith
      | Greater ↦ omega (arith, length-insert_key c xs k)
    ]

pub length-insert_all : {K : Type 0} (c : K → K → Ordering) (ks ns : List K) → length ks ≤ length (insert_all c ks ns)
length-insert_all c ks [] = omega arith
length-insert_all c ks (n ∷ ns) = omega (arith, length-insert_key c ks n, length-insert_all c (insert_key c ks n) ns)

-- what stands in the rest of the one list, stands in the rest of the other
later : {K : Type 0} (c : K → K → Ordering) → IsTotalOrder c → (x y n : K) (xs ys : List K) →
    c y x ≡ Less → IsStrictlySortedBy c (x ∷ xs) → IsIn n (x ∷ xs) → IsIn n (y ∷ ys) → IsIn n ys
unfolding IsStrictlySortedBy
later {K} c o x y n xs ys e s h k =
    elim k [
      | inl q ↦ absurd (missing c o n x xs (subst (λ (z : K). c z x ≡ Less) q e) s.0 h)
      | inr r ↦ r
    ]

-- the members of one list are no more than those of another that has them
pub length-within : {K : Type 0} (c : K → K → Ordering) → IsTotalOrder c → IsAntisymmetric c →
    (xs ys : List K) → IsStrictlySortedBy c xs → IsStrictlySortedBy c ys →
    ((n : K) → IsIn n xs → IsIn n ys) → length xs ≤ length ys
unfolding IsStrictlySortedBy
length-within c o exact [] ys s r f = omega arith
length-within c o exact (x ∷ xs) [] s r f = absurd (f x (inl refl))
length-within {K} c o exact (x ∷ xs) (y ∷ ys) s r f =
    (elim (c x y) as (λ d. c x y ≡ d → length (x ∷ xs) ≤ length (y ∷ ys)) [
      | Less ↦ λ e. absurd (missing c o x y ys e r.0 (f x (inl refl)))
      | Equal ↦ λ e. omega (arith, length-within c o exact xs ys s.1 r.1 (λ n h. rest_in c o x y n xs ys (exact x y e) s.0 h (f n (inr h))))
      | Greater ↦ λ e. omega (arith, length-within c o exact (x ∷ xs) ys s r.1 (λ n h. later c o x y n xs ys (o.antisymm y x ∙ ap ordering_reverse e) s h (f n h)))
    ]) refl
