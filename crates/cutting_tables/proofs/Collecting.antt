-- Terms that are sorted and joined, and values that are in range.
use Rattle.std.proofs.Common.{◌≡◌, ℕ, ◌*◌, ◌<◌, ◌≤◌, Bool, true, false, cond, List, [], ◌∷◌, refl, ap, ◌∙◌, arith}
use Rattle.std.specs.List.{AllByRecursion}
use Rattle.std.specs.List.Sorted.{IsSorted}
use Rattle.std.specs.Cmp.{IsTotalOrder}
use Rattle.std.specs.declared.cmp.Ordering.{Ordering}
use Rattle.std.proofs.lemmas.List.Kept.{IsStrictlySortedBy-dedup}
use Rattle.std.proofs.lemmas.Map.Lookups.{CmpEqualImpliesEq}
use Rattle.exact_sums.specs.Saturating.{overflow, saturated, saturating_plus, saturating_times}
use Rattle.exact_sums.specs.Keyed.{same_by, HaveSameSaturatedSums, rekeyed, saturated_terms, join_onto, joined_neighbours, keys, IsCollected}
use Rattle.exact_sums.proofs.CollectedLaws.{same_by_exact}
use Rattle.exact_sums.proofs.KeyedLaws.{joined_neighbours_sums, joined_neighbours_keys, joined_neighbours_above}
use Rattle.exact_sums.proofs.SaturatingLaws.{saturated_mul_left, saturated_mul_right, saturated_in_range}

module _ {K : Type 0} (cmp : K → K → Ordering) (total : IsTotalOrder cmp) (exact : CmpEqualImpliesEq cmp) where
  pub joined_sums : (ts : List (K × ℕ)) → HaveSameSaturatedSums (same_by cmp) (joined_neighbours (same_by cmp) ts) ts
  joined_sums ts = joined_neighbours_sums (same_by cmp) (same_by_exact cmp total exact) ts

  pub joined_collected : (ts : List (K × ℕ)) → IsSorted cmp (keys ts) → AllByRecursion (λ t. (0 < t.1) × (t.1 ≤ overflow)) ts →
      IsCollected cmp (joined_neighbours (same_by cmp) ts)
  joined_collected ts sorted above =
      record {
        ascending = rw (joined_neighbours_keys (same_by cmp) ts) (IsStrictlySortedBy-dedup total (λ x y. refl) (keys ts) sorted);
        above = joined_neighbours_above (same_by cmp) ts above;
      }

-- terms may be joined by other keys that are equal where these are
module _ {K L : Type 0} (same : K → K → Bool) (other : L → L → Bool) (h : K → L) (P : K → Type 0)
    (agrees : (k j : K) → P k → P j → same k j ≡ other (h k) (h j)) where
  rekeyed-join_onto : (t : K × ℕ) (us : List (K × ℕ)) → P t.0 → AllByRecursion (λ u. P u.0) us →
      rekeyed h (join_onto same t us) ≡ join_onto other (h t.0, t.1) (rekeyed h us)
  rekeyed-join_onto t [] p a = refl
  rekeyed-join_onto t (u ∷ us) p a =
      let joined : K × ℕ = (t.0, saturating_plus t.1 u.1) in
      let first : L × ℕ = (h t.0, t.1) in
      let second : L × ℕ = (h u.0, u.1) in
      let both : L × ℕ = (h t.0, saturating_plus t.1 u.1) in
      (elim (same u.0 t.0) as (λ b. rekeyed h (cond b (join_onto same joined us) (t ∷ join_onto same u us))
      ≡ cond b (join_onto other both (rekeyed h us)) (first ∷ join_onto other second (rekeyed h us))) [
        | true ↦ rekeyed-join_onto joined us p a.1
        | false ↦ ap (λ zs. first ∷ zs) (rekeyed-join_onto u us a.0 a.1)
      ])
      ∙ ap (λ b. cond b (join_onto other both (rekeyed h us)) (first ∷ join_onto other second (rekeyed h us))) (agrees u.0 t.0 a.0 p)

  pub rekeyed-joined_neighbours : (ts : List (K × ℕ)) → AllByRecursion (λ t. P t.0) ts →
      rekeyed h (joined_neighbours same ts) ≡ joined_neighbours other (rekeyed h ts)
  rekeyed-joined_neighbours [] a = refl
  rekeyed-joined_neighbours (t ∷ ts) a = rekeyed-join_onto t ts a.0 a.1

-- the value of the coefficient of a product
pub product_value : (c f d : ℕ) → saturating_times (saturating_times c (saturated f)) d ≡ saturated (c * (f * d))
product_value c f d =
    ap (λ (n : ℕ). saturated (n * d)) (saturated_mul_right c f) ∙ saturated_mul_left (c * f) d ∙ ap saturated (omega arith)

-- values below the overflow are the coefficients themselves
pub values_in_range : {K : Type 0} (ts : List (K × ℕ)) → AllByRecursion (λ t. t.1 < overflow) (saturated_terms ts) →
    (saturated_terms ts ≡ ts) × AllByRecursion (λ t. t.1 < overflow) ts
values_in_range [] a = (refl, tt)
values_in_range {K} (t ∷ ts) a =
    let below : saturated t.1 < overflow = a.0 in
    let range : t.1 < overflow = omega (arith, below) in
    let rest = values_in_range ts a.1 in
    (ap (λ (n : ℕ). term t.0 n ∷ saturated_terms ts) (saturated_in_range t.1 range) ∙ ap (λ us. t ∷ us) rest.0, (range, rest.1))
  where
    term : K → ℕ → K × ℕ
    term k n = (k, n)

pub range_of_values : {K : Type 0} (ts : List (K × ℕ)) → AllByRecursion (λ t. t.1 < overflow) ts → AllByRecursion (λ t. t.1 < overflow) (saturated_terms ts)
range_of_values [] a = tt
range_of_values (t ∷ ts) a = let range : t.1 < overflow = a.0 in (omega (arith, range), range_of_values ts a.1)
