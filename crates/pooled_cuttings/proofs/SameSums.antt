-- Lines that are joined mean terms with the same sums.
use Rattle.std.proofs.Common.{◌≡◌, ℕ, ◌<◌, ◌≤◌, Bool, true, List, [], ◌∷◌, ◌++◌, refl, ap, ◌∙◌}
use Rattle.std.specs.List.{AllByRecursion}
use Rattle.exact_sums.specs.Saturating.{overflow, saturated}
use Rattle.exact_sums.proofs.KeyedLaws.{saturated_sums}
use Rattle.exact_sums.specs.Keyed.{IsExactTest, HaveSameSaturatedSums, rekeyed, sum_at, saturated_terms}
use Rattle.cutting_tables.proofs.Sums.{same_rekeyed}
use Rattle.pooled_cuttings.proofs.Members.{keys_hold, all_more}

abbrev Counted : {K : Type 0} → (K → Type 0) → K × ℕ → Type 0
Counted Q l = Q l.0 × (0 < l.1) × (l.1 ≤ overflow)

zipped : {K : Type 0} (Q : K → Type 0) (xs : List (K × ℕ)) → AllByRecursion (λ x. Q x.0) xs → AllByRecursion (λ x. (0 < x.1) × (x.1 ≤ overflow)) xs →
    AllByRecursion (Counted Q) xs
zipped Q [] a b = tt
zipped Q (x ∷ xs) a b = ((a.0, b.0.0, b.0.1), zipped Q xs a.1 b.1)

-- keys of collected lines are keys of the lines
pub collected_lines : {K : Type 0} (same : K → K → Bool) → IsExactTest same → (Q : K → Type 0) (new old : List (K × ℕ)) → HaveSameSaturatedSums same new old →
    AllByRecursion (λ x. (0 < x.1) × (x.1 ≤ overflow)) new → AllByRecursion (Counted Q) old → AllByRecursion (Counted Q) new
collected_lines {K} same o Q new old h above a =
    zipped Q new
    (keys_hold same o Q new old h (all_more (λ (x : K × ℕ). (0 < x.1) × (x.1 ≤ overflow)) (λ x. 0 < x.1) new (λ x p. p.0) above)
    (all_more (Counted Q) (λ x. Q x.0) old (λ x p. p.0) a))
    above

pub all_above : {K : Type 0} (Q : K → Type 0) (xs : List (K × ℕ)) → AllByRecursion (Counted Q) xs → AllByRecursion (λ x. 0 < x.1) xs
all_above {K} Q xs a = all_more (Counted Q) (λ (x : K × ℕ). 0 < x.1) xs (λ x p. p.1) a

pub after_collecting : {K : Type 0} (same : K → K → Bool) (new old start ts : List (K × ℕ)) → HaveSameSaturatedSums same new old → start ≡ [] → old ≡ start ++ saturated_terms ts →
    HaveSameSaturatedSums same new ts
after_collecting {K} same new old start ts h none e = λ k.
    h k ∙ ap (λ (us : List (K × ℕ)). saturated (sum_at same k us)) (e ∙ ap (λ (us : List (K × ℕ)). us ++ saturated_terms ts) none) ∙ saturated_sums same ts k
