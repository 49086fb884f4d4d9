-- Members of lists of terms.
use Rattle.std.proofs.Common.{◌≡◌, ℕ, ◌+◌, ◌⊎◌, inl, inr, Bool, true, false, cond, List, [], ◌∷◌, map, filter, refl, subst}
use Rattle.std.specs.Ordering.{is_eq, is_gt}
use Rattle.std.specs.declared.cmp.Ordering.{Ordering}
use Rattle.std.specs.declared.cmp.Ordering.TheVariants.{Less, Equal, Greater}
use Rattle.ordered_lists.specs.Members.{IsIn}
use Rattle.exact_sums.specs.Keyed.{with_term, collected, keys}

pub from_filter : {X : Type 0} (p : X → Bool) (x : X) (xs : List X) → IsIn x (filter p xs) → IsIn x xs × (p x ≡ true)
from_filter p x [] h = absurd h
from_filter {X} p x (y ∷ ys) h =
    (elim (p y) as (λ b. p y ≡ b → IsIn x (cond b (y ∷ filter p ys) (filter p ys)) → IsIn x (y ∷ ys) × (p x ≡ true)) [
      | true ↦ λ e i. elim i [ inl q ↦ (inl q, subst (λ (z : X). p z ≡ true) q e) | inr r ↦ (let rest = from_filter p x ys r in (inr rest.0, rest.1)) ]
      | false ↦ λ e i. let rest = from_filter p x ys i in (inr rest.0, rest.1)
    ]) refl h

module _ {K : Type 0} (cmp : K → K → Ordering) where
  from_with_term : (k : K) (t : K × ℕ) (us : List (K × ℕ)) → IsIn k (keys (with_term cmp t us)) → (t.0 ≡ k) ⊎ IsIn k (keys us)
  from_with_term k t [] h = elim h [ inl e ↦ inl e | inr none ↦ absurd none ]
  from_with_term k t (u ∷ us) h =
      (elim (cmp t.0 u.0) as (λ o. IsIn k (keys (cond (is_gt o) (u ∷ with_term cmp t us) (cond (is_eq o) ((u.0, t.1 + u.1) ∷ us) (t ∷ u ∷ us)))) → (t.0 ≡ k) ⊎ IsIn k (keys (u ∷ us))) [
        | Less ↦ λ i. i
        | Equal ↦ λ i. inr i
        | Greater ↦ λ i. elim i [ inl e ↦ inr (inl e) | inr r ↦ elim (from_with_term k t us r) [ inl e ↦ inl e | inr s ↦ inr (inr s) ] ]
      ]) h

  -- a key of collected terms is a key of the terms
  pub from_collected : (k : K) (ts : List (K × ℕ)) → IsIn k (keys (collected cmp ts)) → IsIn k (keys ts)
  from_collected k [] h = h
  from_collected k (t ∷ ts) h = elim (from_with_term k t (collected cmp ts) h) [ inl e ↦ inl e | inr r ↦ inr (from_collected k ts r) ]

-- the member that gives a key
pub from_keys : {X K : Type 0} (f : X → K) (g : X → ℕ) (k : K) (xs : List X) → IsIn k (keys (map (λ x. (f x, g x)) xs)) → (x : X) × IsIn x xs × (f x ≡ k)
from_keys f g k [] h = absurd h
from_keys f g k (x ∷ xs) h = elim h [ inl e ↦ (x, inl refl, e) | inr r ↦ (let rest = from_keys f g k xs r in (rest.0, inr rest.1, rest.2)) ]
