-- Sums by key with whole numbers as coefficients: there is one.
use Rattle.std.proofs.Common.{◌≡◌, ◌≢◌, cond, List, [], ◌∷◌, ℤ, pos, ◌+ℤ◌, Bool, true, false, refl, sym, ap, ◌∙◌, arith, Ordering, Less, Equal, Greater}
use Rattle.std.specs.Cmp.{IsTotalOrder}
use Rattle.std.specs.List.{AllByRecursion}
use Rattle.std.specs.List.Sorted.{IsStrictlySortedBy}
use Rattle.std.specs.Ordering.{ordering_reverse, is_eq}
use Rattle.std.proofs.lemmas.Cmp.{tied_itself}
use Rattle.std.proofs.lemmas.Int.{ints}
use Rattle.exact_sums.specs.Keyed.{same_by}
use Rattle.signed_sums.specs.Signed.{keys, coefficient_at, IsSumOf}

none_here : (b : Bool) (c r : ℤ) → b ≡ false → r ≡ pos 0 → cond b c (pos 0) +ℤ r ≡ pos 0
none_here true c r h k = absurd cc
none_here false c r h k = omega (arith, ints, k)

here_alone : (b : Bool) (c r : ℤ) → b ≡ true → r ≡ pos 0 → cond b c (pos 0) +ℤ r ≡ c
here_alone true c r h k = omega (arith, ints, k)
here_alone false c r h k = absurd cc

cancelled : (a b x y : ℤ) → a ≡ b → a +ℤ x ≡ b +ℤ y → x ≡ y
cancelled a b x y h k = omega (arith, ints, h, k)

module _ {K : Type 0} where
  abbrev pair : K → ℤ → K × ℤ
  pair k z = (k, z)

  same_pair : (t u : K × ℤ) → t.0 ≡ u.0 → t.1 ≡ u.1 → t ≡ u
  same_pair t u a b = ap (λ (k : K). pair k t.1) a ∙ ap (pair u.0) b

module _ {K : Type 0} (cmp : K → K → Ordering) (total : IsTotalOrder cmp) (exact : (a b : K) → cmp a b ≡ Equal → a ≡ b) where
  abbrev at : K → K × ℤ → ℤ
  at k t = cond (same_by cmp t.0 k) t.1 (pos 0)

  abbrev coefficient : K → List (K × ℤ) → ℤ
  coefficient k ts = coefficient_at (same_by cmp) k ts

  itself : (a : K) → is_eq (cmp a a) ≡ true
  itself a = ap is_eq (tied_itself total a)

  apart : (a b : K) → cmp a b ≡ Less → is_eq (cmp b a) ≡ false
  apart a b h = ap is_eq (total.antisymm b a ∙ ap ordering_reverse h)

  absent : (k : K) (ts : List (K × ℤ)) → AllByRecursion (λ n. cmp k n ≡ Less) (keys ts) → coefficient k ts ≡ pos 0
  absent k [] h = refl
  absent k (t ∷ ts) h = none_here (is_eq (cmp t.0 k)) t.1 (coefficient k ts) (apart k t.0 h.0) (absent k ts h.1)

  own : (t : K × ℤ) (ts : List (K × ℤ)) → AllByRecursion (λ n. cmp t.0 n ≡ Less) (keys ts) → coefficient t.0 (t ∷ ts) ≡ t.1
  own t ts h = here_alone (is_eq (cmp t.0 t.0)) t.1 (coefficient t.0 ts) (itself t.0) (absent t.0 ts h)

  below_all : (a b : K) (ts : List (K × ℤ)) → cmp a b ≡ Less → AllByRecursion (λ n. cmp b n ≡ Less) (keys ts) → AllByRecursion (λ n. cmp a n ≡ Less) (keys ts)
  below_all a b [] h all = tt
  below_all a b (t ∷ ts) h all = (total.trans a b t.0 h all.0, below_all a b ts h all.1)

  determined : (ts us : List (K × ℤ)) → IsStrictlySortedBy cmp (keys ts) →
      IsStrictlySortedBy cmp (keys us) → AllByRecursion (λ t. t.1 ≢ pos 0) ts →
      AllByRecursion (λ t. t.1 ≢ pos 0) us
      → ((k : K) → coefficient k ts ≡ coefficient k us) → ts ≡ us
  unfolding IsStrictlySortedBy
  determined [] [] st su nt nu h = refl
  determined [] (u ∷ us) st su nt nu h = absurd (nu.0 (sym (own u us su.0) ∙ sym (h u.0)))
  determined (t ∷ ts) [] st su nt nu h = absurd (nt.0 (sym (own t ts st.0) ∙ h t.0))
  determined (t ∷ ts) (u ∷ us) st su nt nu h =
      (elim (cmp t.0 u.0) as (λ (o : Ordering). cmp t.0 u.0 ≡ o → t ∷ ts ≡ u ∷ us) [
        | Less ↦ λ e. absurd (nt.0 (sym (own t ts st.0) ∙ h t.0 ∙ absent t.0 (u ∷ us) (e, below_all t.0 u.0 us e su.0)))
        | Equal ↦ λ e.
            let k : t.0 ≡ u.0 = exact t.0 u.0 e in
            let c : t.1 ≡ u.1 = sym (own t ts st.0) ∙ h t.0 ∙ ap (λ (n : K). coefficient n (u ∷ us)) k ∙ own u us su.0 in
            let first : t ≡ u = same_pair t u k c in
            let rest : ts ≡ us = determined ts us st.1 su.1 nt.1 nu.1
            (λ n. cancelled (at n t) (at n u) (coefficient n ts) (coefficient n us) (ap (λ (v : K × ℤ). at n v) first) (h n)) in
            ap (λ (v : K × ℤ). v ∷ ts) first ∙ ap (λ (vs : List (K × ℤ)). u ∷ vs) rest
        | Greater ↦ λ e.
            let l : cmp u.0 t.0 ≡ Less = total.antisymm u.0 t.0 ∙ ap ordering_reverse e in
            absurd (nu.0 (sym (own u us su.0) ∙ sym (h u.0) ∙ absent u.0 (t ∷ ts) (l, below_all u.0 t.0 ts l st.0)))
      ]) refl

  pub sum_one : (ps ts us : List (K × ℤ)) → IsSumOf cmp ps ts → IsSumOf cmp ps us → ts ≡ us
  sum_one ps ts us h k = determined ts us h.ascending k.ascending h.nonzero k.nonzero (λ n. h.coefficients n ∙ sym (k.coefficients n))
