-- Terms that are joined.
use Rattle.std.proofs.Common.{◌≡◌, ◌≢◌, ℕ, ◌+◌, ◌<◌, ◌≤◌, ◌==◌, ℤ, pos, ◌+ℤ◌, unsigned_abs, Bool, true, false, not, cond, List, [], ◌∷◌, ◌++◌, map, filter, drop, length, refl, sym, ap, ◌∙◌, arith, append_assoc, Ordering, Less}
use Rattle.std.specs.Cmp.{IsTotalOrder}
use Rattle.std.specs.List.{AllByRecursion, dedup, dedup_from}
use Rattle.std.specs.List.Sorted.{IsSorted, IsStrictlySortedBy}
use Rattle.std.proofs.lemmas.Int.{ints}
use Rattle.std.proofs.lemmas.Bool.Decides.{nat_tests}
use Rattle.std.proofs.lemmas.List.Kept.{IsStrictlySortedBy-dedup, IsStrictlySortedBy-filter}
use Rattle.std.proofs.lemmas.List.Elements.{filter-append}
use Rattle.exact_sums.specs.Keyed.{IsExactTest, same_by}
use Rattle.exact_sums.specs.Sums.{total}
use Rattle.signed_sums.specs.Signed.{keys, coefficient_at, HaveSameCoefficients, size_of, join_onto, joined, without_zeros, IsSumOf}

-- sums of whole numbers
merged : (b : Bool) (c d s : ℤ) → cond b (c +ℤ d) (pos 0) +ℤ s ≡ cond b c (pos 0) +ℤ (cond b d (pos 0) +ℤ s)
merged true c d s = omega (arith, ints)
merged false c d s = omega (arith, ints)

pub size_of_sum : (c d : ℤ) → unsigned_abs (c +ℤ d) ≤ unsigned_abs c + unsigned_abs d
size_of_sum c d = omega (arith, ints)

module _ {K : Type 0} (same : K → K → Bool) where
  join_keys : (t : K × ℤ) (us : List (K × ℤ)) → keys (join_onto same t us) ≡ dedup_from same t.0 (keys us)
  join_keys t [] = refl
  join_keys t (u ∷ us) =
      elim (same u.0 t.0) as (λ b. keys (cond b (join_onto same (t.0, t.1 +ℤ u.1) us) (t ∷ join_onto same u us))
      ≡ cond b (dedup_from same t.0 (keys us)) (t.0 ∷ dedup_from same u.0 (keys us))) [
        | true ↦ join_keys (t.0, t.1 +ℤ u.1) us
        | false ↦ ap (λ (ks : List K). t.0 ∷ ks) (join_keys u us)
      ]

  joined_keys : (ts : List (K × ℤ)) → keys (joined same ts) ≡ dedup same (keys ts)
  joined_keys [] = refl
  joined_keys (t ∷ ts) = join_keys t ts

  join_size : (t : K × ℤ) (us : List (K × ℤ)) → size_of (join_onto same t us) ≤ unsigned_abs t.1 + size_of us
  join_size t [] = omega arith
  join_size t (u ∷ us) =
      elim (same u.0 t.0) as (λ b. size_of (cond b (join_onto same (t.0, t.1 +ℤ u.1) us) (t ∷ join_onto same u us))
      ≤ unsigned_abs t.1 + (unsigned_abs u.1 + size_of us)) [
        | true ↦ omega (arith, join_size (t.0, t.1 +ℤ u.1) us, size_of_sum t.1 u.1)
        | false ↦ omega (arith, join_size u us)
      ]

  joined_size : (ts : List (K × ℤ)) → size_of (joined same ts) ≤ size_of ts
  joined_size [] = omega arith
  joined_size (t ∷ ts) = join_size t ts

  module _ (o : IsExactTest same) where
    join_sums : (k : K) (t : K × ℤ) (us : List (K × ℤ)) →
        coefficient_at same k (join_onto same t us) ≡ cond (same t.0 k) t.1 (pos 0) +ℤ coefficient_at same k us
    join_sums k t [] = refl
    join_sums k t (u ∷ us) =
        (elim (same u.0 t.0) as (λ b. same u.0 t.0 ≡ b →
        coefficient_at same k (cond b (join_onto same (t.0, t.1 +ℤ u.1) us) (t ∷ join_onto same u us))
        ≡ cond (same t.0 k) t.1 (pos 0) +ℤ (cond (same u.0 k) u.1 (pos 0) +ℤ coefficient_at same k us)) [
          | true ↦ λ e.
              let q : same t.0 k ≡ same u.0 k = sym (ap (λ (y : K). same y k) (o.only u.0 t.0 e)) in
              join_sums k (t.0, t.1 +ℤ u.1) us
              ∙ merged (same t.0 k) t.1 u.1 (coefficient_at same k us)
              ∙ ap (λ (b : Bool). cond (same t.0 k) t.1 (pos 0) +ℤ (cond b u.1 (pos 0) +ℤ coefficient_at same k us)) q
          | false ↦ λ e. ap (λ (z : ℤ). cond (same t.0 k) t.1 (pos 0) +ℤ z) (join_sums k u us)
        ]) refl

    joined_sums : (ts : List (K × ℤ)) → HaveSameCoefficients same (joined same ts) ts
    joined_sums [] = λ k. refl
    joined_sums (t ∷ ts) = λ k. join_sums k t ts

-- terms that are 0
zero_size : (z : ℤ) → (unsigned_abs z == 0) ≡ true → z ≡ pos 0
zero_size z e = grind (arith, ints, nat_tests)

some_size : (z : ℤ) → (unsigned_abs z == 0) ≡ false → z ≢ pos 0
some_size z e = λ n. grind (arith, ints, nat_tests)

nothing_at : (b : Bool) → pos 0 ≡ cond b (pos 0) (pos 0)
nothing_at true = refl
nothing_at false = refl

module _ {K : Type 0} where
  zeros_left_out : (same : K → K → Bool) (k : K) (ts : List (K × ℤ)) → coefficient_at same k (without_zeros ts) ≡ coefficient_at same k ts
  zeros_left_out same k [] = refl
  zeros_left_out same k (t ∷ ts) =
      let rest = zeros_left_out same k ts in
      (elim (unsigned_abs t.1 == 0) as (λ b. (unsigned_abs t.1 == 0) ≡ b →
      coefficient_at same k (cond (not b) (t ∷ without_zeros ts) (without_zeros ts)) ≡ cond (same t.0 k) t.1 (pos 0) +ℤ coefficient_at same k ts) [
        | true ↦ λ e.
            let none : pos 0 ≡ cond (same t.0 k) t.1 (pos 0) = nothing_at (same t.0 k) ∙ ap (λ (z : ℤ). cond (same t.0 k) z (pos 0)) (sym (zero_size t.1 e)) in
            omega (arith, ints, rest, none)
        | false ↦ λ e. ap (λ (z : ℤ). cond (same t.0 k) t.1 (pos 0) +ℤ z) rest
      ]) refl

  none_zero : (ts : List (K × ℤ)) → AllByRecursion (λ (t : K × ℤ). t.1 ≢ pos 0) (without_zeros ts)
  none_zero [] = tt
  none_zero (t ∷ ts) =
      (elim (unsigned_abs t.1 == 0) as (λ b. (unsigned_abs t.1 == 0) ≡ b →
      AllByRecursion (λ (u : K × ℤ). u.1 ≢ pos 0) (cond (not b) (t ∷ without_zeros ts) (without_zeros ts))) [
        | true ↦ λ e. none_zero ts
        | false ↦ λ e. (some_size t.1 e, none_zero ts)
      ]) refl

  size_without_zeros : (ts : List (K × ℤ)) → size_of (without_zeros ts) ≤ size_of ts
  size_without_zeros [] = omega arith
  size_without_zeros (t ∷ ts) =
      elim (unsigned_abs t.1 == 0) as (λ b. size_of (cond (not b) (t ∷ without_zeros ts) (without_zeros ts)) ≤ unsigned_abs t.1 + size_of ts) [
        | true ↦ omega (arith, size_without_zeros ts)
        | false ↦ omega (arith, size_without_zeros ts)
      ]

  -- terms of which some are left out
  all_kept : (P : K → Type 0) (q : K × ℤ → Bool) (ts : List (K × ℤ)) → AllByRecursion P (keys ts) → AllByRecursion P (keys (filter q ts))
  all_kept P q [] a = tt
  all_kept P q (t ∷ ts) a =
      elim (q t) as (λ b. AllByRecursion P (keys (cond b (t ∷ filter q ts) (filter q ts)))) [
        | true ↦ (a.0, all_kept P q ts a.1)
        | false ↦ all_kept P q ts a.1
      ]

  ascending_kept : (cmp : K → K → Ordering) (q : K × ℤ → Bool) (ts : List (K × ℤ)) →
      IsStrictlySortedBy cmp (keys ts) → IsStrictlySortedBy cmp (keys (filter q ts))
  unfolding IsStrictlySortedBy
  ascending_kept cmp q [] s = tt
  ascending_kept cmp q (t ∷ ts) s =
      elim (q t) as (λ b. IsStrictlySortedBy cmp (keys (cond b (t ∷ filter q ts) (filter q ts)))) [
        | true ↦ (all_kept (λ k. cmp t.0 k ≡ Less) q ts s.0, ascending_kept cmp q ts s.1)
        | false ↦ ascending_kept cmp q ts s.1
      ]

  -- sorted terms, joined
  pub joined_is_sum : (cmp : K → K → Ordering) → IsTotalOrder cmp → IsExactTest (same_by cmp) → (ts : List (K × ℤ)) → IsSorted cmp (keys ts) →
      IsSumOf cmp ts (without_zeros (joined (same_by cmp) ts))
  joined_is_sum cmp total exact ts sorted =
      let same = same_by cmp in
      record {
        ascending =
            ascending_kept cmp (λ t. not (unsigned_abs t.1 == 0)) (joined same ts)
            (rw (joined_keys same ts) (IsStrictlySortedBy-dedup total (λ x y. refl) (keys ts) sorted));
        coefficients = λ k. zeros_left_out same k (joined same ts) ∙ joined_sums same exact ts k;
        nonzero = none_zero (joined same ts);
        size = omega (arith, size_without_zeros (joined same ts), joined_size same ts);
      }

  -- a loop that joins, with a term that is open
  left_out-append : (xs ys : List (K × ℤ)) → without_zeros (xs ++ ys) ≡ without_zeros xs ++ without_zeros ys
  left_out-append xs ys = filter-append (λ t. not (unsigned_abs t.1 == 0)) xs ys

  module _ (same : K → K → Bool) (sums whole : List (K × ℤ)) (t u : K × ℤ) (us : List (K × ℤ))
      (h : sums ++ without_zeros (join_onto same t (u ∷ us)) ≡ whole) where
    pub join_same : same u.0 t.0 ≡ true → sums ++ without_zeros (join_onto same (t.0, t.1 +ℤ u.1) us) ≡ whole
    join_same e = rw e at h

    pub join_next : same u.0 t.0 ≡ false → (sums ++ without_zeros (t ∷ [])) ++ without_zeros (join_onto same u us) ≡ whole
    join_next e =
        append_assoc sums (without_zeros (t ∷ [])) (without_zeros (join_onto same u us))
        ∙ ap (λ (xs : List (K × ℤ)). sums ++ xs) (sym (left_out-append (t ∷ []) (join_onto same u us)))
        ∙ (rw e at h)
