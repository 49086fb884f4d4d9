-- Formal sums as lists of terms; a term is a key with a coefficient.
-- What contracts of public calls say:
--   IsExactTest same == `same` answers whether two keys are equal
--   same_by cmp k l == the test of equality that the order cmp gives
--   sum_at same k terms == the sum of the coefficients of the key k
--   HaveSameSums same xs ys == each key has one sum in both lists
--   HaveSameSaturatedSums same xs ys == the same for sums that may be out of range
--   rekeyed h terms == the terms with h of their keys
--   scaled c terms == the terms with c times their coefficients
--   saturated_terms terms == the terms with the values of their coefficients
--   expanded step terms == each term replaced by the terms that `step` gives for its key, times its
--       coefficient
--   products_with factor op k ys == one term with the key k and the coefficient 1 times each term
--       of ys
--   products factor op xs ys == each term of xs times each term of ys, and times a factor that the
--       keys give
--   join_onto same t terms == the term t and the terms behind it, neighbours with equal keys made
--       one, their coefficients added as values
--   joined_neighbours same terms == the same of all terms
--   with_term cmp t terms == terms in ascending order of their keys with one more: added to that of
--       an equal key, where there is one
--   collected cmp terms == the terms in ascending order of their keys, each key once, with the sum
--       of its coefficients
--   keys terms == the keys
--   IsCollected cmp terms == each key stands once, the keys ascend, and each coefficient is a value
--       that is not 0
-- Working notions of the code and of proofs:
--   sum_with f terms == the sum of the coefficients, each times the number that f gives for its key
use Rattle.std.specs.Prelude.{◌≡◌, ◌<◌, ◌≤◌, ℕ, ◌+◌, ◌*◌, Bool, true, cond, List, [], ◌∷◌, ◌++◌, map}
use Rattle.std.specs.List.{AllByRecursion}
use Rattle.std.specs.List.Sorted.{IsStrictlySortedBy}
use Rattle.std.specs.Ordering.{is_eq, is_gt}
use Rattle.std.specs.declared.cmp.Ordering.{Ordering}
use Rattle.exact_sums.specs.Saturating.{overflow, saturated, saturating_plus}

pub record IsExactTest {K : Type 0} (same : K → K → Bool) : Type 0 where
  pub always : (a : K) → same a a ≡ true
  pub only : (a b : K) → same a b ≡ true → a ≡ b

abbrev pub same_by : {K : Type 0} → (K → K → Ordering) → K → K → Bool
same_by cmp k l = is_eq (cmp k l)

abbrev pub sum_at : {K : Type 0} → (K → K → Bool) → K → List (K × ℕ) → ℕ
sum_at same k [] = 0
sum_at same k (t ∷ ts) = cond (same t.0 k) t.1 0 + sum_at same k ts

abbrev pub HaveSameSums : {K : Type 0} → (K → K → Bool) → List (K × ℕ) → List (K × ℕ) → Type 0
HaveSameSums {K} same xs ys = (k : K) → sum_at same k xs ≡ sum_at same k ys

abbrev pub HaveSameSaturatedSums : {K : Type 0} → (K → K → Bool) → List (K × ℕ) → List (K × ℕ) →
    Type 0
HaveSameSaturatedSums {K} same xs ys = (k : K) →
    saturated (sum_at same k xs) ≡ saturated (sum_at same k ys)

abbrev pub sum_with : {K : Type 0} → (K → ℕ) → List (K × ℕ) → ℕ
sum_with f [] = 0
sum_with f (t ∷ ts) = f t.0 * t.1 + sum_with f ts

abbrev pub rekeyed : {K J : Type 0} → (K → J) → List (K × ℕ) → List (J × ℕ)
rekeyed h [] = []
rekeyed h (t ∷ ts) = (h t.0, t.1) ∷ rekeyed h ts

abbrev pub scaled : {K : Type 0} → ℕ → List (K × ℕ) → List (K × ℕ)
scaled c [] = []
scaled c (t ∷ ts) = (t.0, c * t.1) ∷ scaled c ts

abbrev pub saturated_terms : {K : Type 0} → List (K × ℕ) → List (K × ℕ)
saturated_terms [] = []
saturated_terms (t ∷ ts) = (t.0, saturated t.1) ∷ saturated_terms ts

abbrev pub expanded : {K J : Type 0} → (K → List (J × ℕ)) → List (K × ℕ) → List (J × ℕ)
expanded step [] = []
expanded step (t ∷ ts) = scaled t.1 (step t.0) ++ expanded step ts

-- one key with each term of the other list
abbrev pub products_with : {K J L : Type 0} → (K → J → ℕ) → (K → J → L) → K → List (J × ℕ) →
    List (L × ℕ)
products_with factor op k [] = []
products_with factor op k (t ∷ ts) = (op k t.0, factor k t.0 * t.1) ∷ products_with factor op k ts

abbrev pub products : {K J L : Type 0} → (K → J → ℕ) → (K → J → L) → List (K × ℕ) → List (J × ℕ) →
    List (L × ℕ)
products factor op xs ys = expanded (λ k. products_with factor op k ys) xs

abbrev pub join_onto : {K : Type 0} → (K → K → Bool) → K × ℕ → List (K × ℕ) → List (K × ℕ)
join_onto same t [] = t ∷ []
join_onto same t (u ∷ us) =
    cond (same u.0 t.0) (join_onto same (t.0, saturating_plus t.1 u.1) us) (t ∷ join_onto same u us)

abbrev pub joined_neighbours : {K : Type 0} → (K → K → Bool) → List (K × ℕ) → List (K × ℕ)
joined_neighbours same [] = []
joined_neighbours same (t ∷ ts) = join_onto same t ts

abbrev pub with_term : {K : Type 0} → (K → K → Ordering) → K × ℕ → List (K × ℕ) → List (K × ℕ)
with_term cmp t [] = t ∷ []
with_term cmp t (u ∷ us) = cond (is_gt (cmp t.0 u.0)) (u ∷ with_term cmp t us)
    (cond (is_eq (cmp t.0 u.0)) ((u.0, t.1 + u.1) ∷ us) (t ∷ u ∷ us))

abbrev pub collected : {K : Type 0} → (K → K → Ordering) → List (K × ℕ) → List (K × ℕ)
collected cmp [] = []
collected cmp (t ∷ ts) = with_term cmp t (collected cmp ts)

abbrev pub keys : {K : Type 0} → List (K × ℕ) → List K
keys ts = map (λ t. t.0) ts

pub record IsCollected {K : Type 0} (cmp : K → K → Ordering) (ts : List (K × ℕ)) : Type 0 where
  pub ascending : IsStrictlySortedBy cmp (keys ts)
  pub above : AllByRecursion (λ t. (0 < t.1) × (t.1 ≤ overflow)) ts
