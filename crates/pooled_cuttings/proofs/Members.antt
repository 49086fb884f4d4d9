-- Keys of terms with the sums of others.
use Rattle.std.proofs.Common.{◌≡◌, ℕ, ◌+◌, ◌<◌, ◌≤◌, Bool, true, false, cond, inl, inr, List, [], ◌∷◌, ◌++◌, map, filter, refl, sym, ap, ◌∙◌, arith, subst}
use Rattle.std.specs.List.{AllByRecursion}
use Rattle.ordered_lists.specs.Members.{IsIn}
use Rattle.exact_sums.specs.Saturating.{saturated}
use Rattle.exact_sums.specs.Keyed.{IsExactTest, sum_at, HaveSameSaturatedSums, keys}

pub all_in : {X : Type 0} (P : X → Type 0) (xs : List X) → ((x : X) → IsIn x xs → P x) → AllByRecursion P xs
all_in P [] h = tt
all_in P (x ∷ xs) h = (h x (inl refl), all_in P xs (λ y i. h y (inr i)))

pub in_all : {X : Type 0} (P : X → Type 0) (xs : List X) (x : X) → AllByRecursion P xs → IsIn x xs → P x
in_all P [] x a h = absurd h
in_all P (y ∷ ys) x a h = elim h [ inl e ↦ subst P e a.0 | inr r ↦ in_all P ys x a.1 r ]

pub all_mapped_in : {X Y : Type 0} (P : Y → Type 0) (f : X → Y) (xs : List X) → ((x : X) → IsIn x xs → P (f x)) → AllByRecursion P (map f xs)
all_mapped_in P f [] h = tt
all_mapped_in P f (x ∷ xs) h = (h x (inl refl), all_mapped_in P f xs (λ y i. h y (inr i)))

pub all_unmapped : {X Y : Type 0} (P : Y → Type 0) (f : X → Y) (xs : List X) → AllByRecursion P (map f xs) → AllByRecursion (λ x. P (f x)) xs
all_unmapped P f [] a = tt
all_unmapped P f (x ∷ xs) a = (a.0, all_unmapped P f xs a.1)

pub all_more : {X : Type 0} (P Q : X → Type 0) (xs : List X) → ((x : X) → P x → Q x) → AllByRecursion P xs → AllByRecursion Q xs
all_more P Q [] h a = tt
all_more P Q (x ∷ xs) h a = (h x a.0, all_more P Q xs h a.1)

module _ {K : Type 0} (same : K → K → Bool) (o : IsExactTest same) where
  some_sum : (k : K) (ts : List (K × ℕ)) → AllByRecursion (λ t. 0 < t.1) ts → IsIn k (keys ts) → 0 < sum_at same k ts
  some_sum k [] a h = absurd h
  some_sum k (t ∷ ts) a h =
      let first : 0 < t.1 = a.0 in
      elim h [
        | inl e ↦
            let there : same t.0 k ≡ true = subst (λ (j : K). same t.0 j ≡ true) e (o.always t.0) in
            let counted : cond (same t.0 k) t.1 0 ≡ t.1 = ap (λ (b : Bool). cond b t.1 0) there in
            omega (arith, counted, first)
        | inr r ↦ let rest = some_sum k ts a.1 r in omega (arith, rest)
      ]

  found : (k : K) (ts : List (K × ℕ)) → 0 < sum_at same k ts → IsIn k (keys ts)
  found k [] h = absurd (omega (arith, h))
  found k (t ∷ ts) h =
      (elim (same t.0 k) as (λ b. same t.0 k ≡ b → IsIn k (keys (t ∷ ts))) [
        | true ↦ λ e. inl (o.only t.0 k e)
        | false ↦ λ e. let none : cond (same t.0 k) t.1 0 ≡ 0 = ap (λ (b : Bool). cond b t.1 0) e in inr (found k ts (omega (arith, h, none)))
      ]) refl

  key_in : (ts us : List (K × ℕ)) (k : K) → HaveSameSaturatedSums same ts us → AllByRecursion (λ t. 0 < t.1) ts → IsIn k (keys ts) → IsIn k (keys us)
  key_in ts us k h a i =
      let some = some_sum k ts a i in
      let equal = h k in
      let more : 0 < sum_at same k us = omega (arith, some, equal) in
      found k us more

  -- what holds of the keys of a list holds of those of another with its sums
  pub keys_hold : (Q : K → Type 0) (ts us : List (K × ℕ)) → HaveSameSaturatedSums same ts us → AllByRecursion (λ t. 0 < t.1) ts →
      AllByRecursion (λ u. Q u.0) us → AllByRecursion (λ t. Q t.0) ts
  keys_hold Q ts us h a q =
      let on_keys : (vs : List (K × ℕ)) → AllByRecursion (λ v. Q v.0) vs → AllByRecursion Q (keys vs) = of_keys Q in
      all_in (λ t. Q t.0) ts (λ t i. in_all Q (keys us) t.0 (on_keys us q) (key_in ts us t.0 h a (in_keys t ts i)))
    where
      of_keys : (R : K → Type 0) (vs : List (K × ℕ)) → AllByRecursion (λ v. R v.0) vs → AllByRecursion R (keys vs)
      of_keys R [] b = tt
      of_keys R (v ∷ vs) b = (b.0, of_keys R vs b.1)

      in_keys : (v : K × ℕ) (vs : List (K × ℕ)) → IsIn v vs → IsIn v.0 (keys vs)
      in_keys v [] i = absurd i
      in_keys v (y ∷ vs) i = elim i [ inl e ↦ inl (ap (λ (z : K × ℕ). z.0) e) | inr r ↦ inr (in_keys v vs r) ]
