-- Laws of collected terms.
use Rattle.std.proofs.Common.{◌≡◌, ℕ, ◌+◌, ◌<◌, Bool, true, false, cond, List, [], ◌∷◌, refl, sym, ap, subst, ◌∙◌, arith}
use Rattle.std.specs.List.{AllByRecursion}
use Rattle.std.specs.List.Sorted.{IsStrictlySortedBy}
use Rattle.std.specs.declared.cmp.Ordering.{Ordering}
use Rattle.std.specs.declared.cmp.Ordering.TheVariants.{Less, Equal, Greater}
use Rattle.std.specs.Cmp.{IsTotalOrder}
use Rattle.std.specs.Ordering.{ordering_reverse, is_eq, is_gt}
use Rattle.std.proofs.lemmas.Map.Lookups.{CmpEqualImpliesEq}
use Rattle.exact_sums.specs.Keyed.{IsExactTest, same_by, sum_at, HaveSameSums, with_term, collected, keys}
use Rattle.exact_sums.proofs.KeyedLaws.{no_sum, own_sum, pair_same}

abbrev IsPositive : {K : Type 0} → K × ℕ → Type 0
IsPositive t = 0 < t.1

equal_of : (o : Ordering) → is_eq o ≡ true → o ≡ Equal
equal_of Less h = absurd cc
equal_of Equal h = refl
equal_of Greater h = absurd cc

split_sum : (b : Bool) (c d : ℕ) → cond b (c + d) 0 ≡ cond b c 0 + cond b d 0
split_sum true c d = refl
split_sum false c d = refl

module _ {K : Type 0} (cmp : K → K → Ordering) (exact : CmpEqualImpliesEq cmp) where
  pub sum_at-with_term : (k : K) (t : K × ℕ) (us : List (K × ℕ)) →
      sum_at (same_by cmp) k (with_term cmp t us) ≡ cond (same_by cmp t.0 k) t.1 0 + sum_at (same_by cmp) k us
  sum_at-with_term k t [] = refl
  sum_at-with_term k t (u ∷ us) =
      (elim (cmp t.0 u.0) as (λ o. cmp t.0 u.0 ≡ o → sum_at (same_by cmp) k (cond (is_gt o) (u ∷ with_term cmp t us) (cond (is_eq o) ((u.0, t.1 + u.1) ∷ us) (t ∷ u ∷ us))) ≡ cond (same_by cmp t.0 k) t.1 0 + (cond (same_by cmp u.0 k) u.1 0 + sum_at (same_by cmp) k us)) [
        | Less ↦ λ e. refl
        | Equal ↦ λ e.
            let q : same_by cmp t.0 k ≡ same_by cmp u.0 k = ap (λ (j : K). same_by cmp j k) (exact t.0 u.0 e) in
            let s = split_sum (same_by cmp u.0 k) t.1 u.1 in
            let r : cond (same_by cmp t.0 k) t.1 0 ≡ cond (same_by cmp u.0 k) t.1 0 = ap (λ (b : Bool). cond b t.1 0) q in
            omega (arith, s, r)
        | Greater ↦ λ e. let rest = sum_at-with_term k t us in omega (arith, rest)
      ]) refl

  pub sum_at-collected : (k : K) (ts : List (K × ℕ)) → sum_at (same_by cmp) k (collected cmp ts) ≡ sum_at (same_by cmp) k ts
  sum_at-collected k [] = refl
  sum_at-collected k (t ∷ ts) = sum_at-with_term k t (collected cmp ts) ∙ ap (λ (n : ℕ). cond (same_by cmp t.0 k) t.1 0 + n) (sum_at-collected k ts)

pub with_term_positive : {K : Type 0} (cmp : K → K → Ordering) (t : K × ℕ) (us : List (K × ℕ)) →
    0 < t.1 → AllByRecursion IsPositive us → AllByRecursion IsPositive (with_term cmp t us)
with_term_positive cmp t [] h a = (h, tt)
with_term_positive {K} cmp t (u ∷ us) h a =
    let first : 0 < u.1 = a.0 in
    elim (cmp t.0 u.0) as (λ o. AllByRecursion IsPositive (cond (is_gt o) (u ∷ with_term cmp t us) (cond (is_eq o) ((u.0, t.1 + u.1) ∷ us) (t ∷ u ∷ us)))) [
      | Less ↦ (h, a)
      | Equal ↦ (omega (arith, h), a.1)
      | Greater ↦ (first, with_term_positive cmp t us h a.1)
    ]

pub collected_positive : {K : Type 0} (cmp : K → K → Ordering) (ts : List (K × ℕ)) →
    AllByRecursion IsPositive ts → AllByRecursion (λ t. 0 < t.1) (collected cmp ts)
collected_positive cmp [] a = tt
collected_positive cmp (t ∷ ts) a = with_term_positive cmp t (collected cmp ts) a.0 (collected_positive cmp ts a.1)

module _ {K : Type 0} (cmp : K → K → Ordering) (total : IsTotalOrder cmp) where
  above_with : (x : K) (t : K × ℕ) (us : List (K × ℕ)) → cmp x t.0 ≡ Less →
      AllByRecursion (λ y. cmp x y ≡ Less) (keys us) →
      AllByRecursion (λ y. cmp x y ≡ Less) (keys (with_term cmp t us))
  above_with x t [] h a = (h, tt)
  above_with x t (u ∷ us) h a =
      elim (cmp t.0 u.0) as (λ o. AllByRecursion (λ y. cmp x y ≡ Less) (keys (cond (is_gt o) (u ∷ with_term cmp t us) (cond (is_eq o) ((u.0, t.1 + u.1) ∷ us) (t ∷ u ∷ us))))) [
        | Less ↦ (h, a)
        | Equal ↦ a
        | Greater ↦ (a.0, above_with x t us h a.1)
      ]

  above_first : (k x : K) (xs : List K) → cmp k x ≡ Less → AllByRecursion (λ y. cmp x y ≡ Less) xs → AllByRecursion (λ y. cmp k y ≡ Less) xs
  above_first k x [] e h = tt
  above_first k x (y ∷ ys) e h = (total.trans k x y e h.0, above_first k x ys e h.1)

  with_term_ascending : (t : K × ℕ) (us : List (K × ℕ)) → IsStrictlySortedBy cmp (keys us) → IsStrictlySortedBy cmp (keys (with_term cmp t us))
  unfolding IsStrictlySortedBy
  with_term_ascending t [] s = (tt, tt)
  with_term_ascending t (u ∷ us) s =
      (elim (cmp t.0 u.0) as (λ o. cmp t.0 u.0 ≡ o → IsStrictlySortedBy cmp (keys (cond (is_gt o) (u ∷ with_term cmp t us) (cond (is_eq o) ((u.0, t.1 + u.1) ∷ us) (t ∷ u ∷ us))))) [
        | Less ↦ λ e. ((e, above_first t.0 u.0 (keys us) e s.0), s)
        | Equal ↦ λ e. s
        | Greater ↦ λ e. (above_with u.0 t us (total.antisymm u.0 t.0 ∙ ap ordering_reverse e) s.0, with_term_ascending t us s.1)
      ]) refl

  pub collected_ascending : (ts : List (K × ℕ)) → IsStrictlySortedBy cmp (keys (collected cmp ts))
  unfolding IsStrictlySortedBy
  collected_ascending [] = tt
  collected_ascending (t ∷ ts) = with_term_ascending t (collected cmp ts) (collected_ascending ts)

module _ {K : Type 0} (cmp : K → K → Ordering) (total : IsTotalOrder cmp) (exact : CmpEqualImpliesEq cmp) where
  self_equal : (a : K) → cmp a a ≡ Equal
  self_equal a =
      (elim (cmp a a) as (λ o. cmp a a ≡ o → o ≡ Equal) [
        | Less ↦ λ e. let r : Less ≡ ordering_reverse Less = sym e ∙ total.antisymm a a ∙ ap ordering_reverse e in absurd cc
        | Equal ↦ λ e. refl
        | Greater ↦ λ e. let r : Greater ≡ ordering_reverse Greater = sym e ∙ total.antisymm a a ∙ ap ordering_reverse e in absurd cc
      ]) refl

  pub same_by_exact : IsExactTest (same_by cmp)
  same_by_exact = record { always = λ a. ap is_eq (self_equal a); only = λ a b h. exact a b (equal_of (cmp a b) h) }

  abbrev none : (j : K) (ts : List (K × ℕ)) → AllByRecursion (λ y. cmp j y ≡ Less) (keys ts) → sum_at (same_by cmp) j ts ≡ 0
  none j ts a = no_sum cmp total (same_by cmp) same_by_exact (λ x y. refl) j ts a

  abbrev own : (t : K × ℕ) (ts : List (K × ℕ)) → AllByRecursion (λ y. cmp t.0 y ≡ Less) (keys ts) → sum_at (same_by cmp) t.0 (t ∷ ts) ≡ t.1
  own t ts a = own_sum cmp total (same_by cmp) same_by_exact (λ x y. refl) t ts a

  first_missing : (x : K × ℕ) (xs ys : List (K × ℕ)) →
      AllByRecursion (λ y. cmp x.0 y ≡ Less) (keys xs) →
      AllByRecursion (λ y. cmp x.0 y ≡ Less) (keys ys) → 0 < x.1 →
      sum_at (same_by cmp) x.0 (x ∷ xs) ≡ sum_at (same_by cmp) x.0 ys → ⊥
  first_missing x xs ys a b p e = let s = own x xs a in let n = none x.0 ys b in omega (arith, s, n, e)

  rest_same : (x y : K × ℕ) (xs ys : List (K × ℕ)) → x ≡ y → HaveSameSums (same_by cmp) (x ∷ xs) (y ∷ ys) → HaveSameSums (same_by cmp) xs ys
  rest_same x y xs ys q h = λ k.
      let e : cond (same_by cmp x.0 k) x.1 0 ≡ cond (same_by cmp y.0 k) y.1 0 = ap (λ (t : K × ℕ). cond (same_by cmp t.0 k) t.1 0) q in
      omega (arith, e, h k)

  pub ascending_unique : (xs ys : List (K × ℕ)) → IsStrictlySortedBy cmp (keys xs) →
      IsStrictlySortedBy cmp (keys ys) → AllByRecursion IsPositive xs →
      AllByRecursion IsPositive ys →
      HaveSameSums (same_by cmp) xs ys → xs ≡ ys
  unfolding IsStrictlySortedBy
  ascending_unique [] [] s r p q h = refl
  ascending_unique [] (y ∷ ys) s r p q h = let n = own y ys r.0 in let e = h y.0 in let z : 0 < y.1 = q.0 in absurd (omega (arith, n, e))
  ascending_unique (x ∷ xs) [] s r p q h = let n = own x xs s.0 in let e = h x.0 in let z : 0 < x.1 = p.0 in absurd (omega (arith, n, e))
  ascending_unique (x ∷ xs) (y ∷ ys) s r p q h =
      (elim (cmp x.0 y.0) as (λ d. cmp x.0 y.0 ≡ d → x ∷ xs ≡ y ∷ ys) [
        | Less ↦ λ e. absurd (first_missing x xs (y ∷ ys) s.0 (e, above_first cmp total x.0 y.0 (keys ys) e r.0) p.0 (h x.0))
        | Equal ↦ λ e.
            let k : x.0 ≡ y.0 = exact x.0 y.0 e in
            let u = own x xs s.0 in
            let v : sum_at (same_by cmp) x.0 (y ∷ ys) ≡ y.1 = subst (λ (j : K). sum_at (same_by cmp) j (y ∷ ys) ≡ y.1) (sym k) (own y ys r.0) in
            let g = h x.0 in
            let n : x.1 ≡ y.1 = omega (arith, u, v, g) in
            let t : x ≡ y = pair_same x y k n in
            ap (λ (z : K × ℕ). z ∷ xs) t ∙ ap (λ (ts : List (K × ℕ)). y ∷ ts) (ascending_unique xs ys s.1 r.1 p.1 q.1 (rest_same x y xs ys t h))
        | Greater ↦ λ e.
            let f : cmp y.0 x.0 ≡ Less = total.antisymm y.0 x.0 ∙ ap ordering_reverse e in
            absurd (first_missing y ys (x ∷ xs) r.0 (f, above_first cmp total y.0 x.0 (keys xs) f s.0) q.0 (sym (h y.0)))
      ]) refl

  -- collected terms are determined by the sums by key
  pub collected_same : (xs ys : List (K × ℕ)) → AllByRecursion IsPositive xs →
      AllByRecursion IsPositive ys → HaveSameSums (same_by cmp) xs ys →
      collected cmp xs ≡ collected cmp ys
  collected_same xs ys p q h =
      ascending_unique (collected cmp xs) (collected cmp ys) (collected_ascending cmp total xs) (collected_ascending cmp total ys)
      (collected_positive cmp xs p) (collected_positive cmp ys q)
      (λ k. sum_at-collected cmp exact k xs ∙ h k ∙ sym (sum_at-collected cmp exact k ys))
