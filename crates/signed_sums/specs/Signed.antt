-- Formal sums with whole numbers as coefficients, as lists of terms; a term is a key with a
-- coefficient.
-- What contracts of public calls say:
--   keys ts == the keys
--   coefficient_at same k ts == the sum of the coefficients of the key k
--   HaveSameCoefficients same ts us == each key has one sum in both lists
--   size_of ts == the sum of the absolute coefficients
--   joined same ts == neighbours with equal keys made one term, their coefficients added
--   join_onto same t ts == the same, of t with the terms ts behind it
--   without_zeros ts == the terms with a coefficient that is not 0
--   IsSumOf cmp us ts == ts is the sum of the terms us: each key once, in ascending order, with the
--       sum of its coefficients, where that is not 0; and it is no larger
--   product_of zs, size_of_product zs == the product of whole numbers, that of their absolute
--       values
-- Working notions of the code and of proofs:
--   is_below z == z is below 0
use Rattle.std.specs.Prelude.{◌≡◌, ◌≢◌, ℕ, ◌≤◌, ◌*◌, ◌==◌, ℤ, pos, negsuc, ◌+ℤ◌, ◌*ℤ◌, unsigned_abs, Bool, true, false, not, cond, List, [], ◌∷◌, map, filter}
use Rattle.std.specs.List.{AllByRecursion}
use Rattle.std.specs.List.Sorted.{IsStrictlySortedBy}
use Rattle.std.specs.declared.cmp.Ordering.{Ordering}
use Rattle.exact_sums.specs.Keyed.{same_by}
use Rattle.exact_sums.specs.Sums.{total}

abbrev pub keys : {K : Type 0} → List (K × ℤ) → List K
keys ts = map (λ t. t.0) ts

abbrev pub coefficient_at : {K : Type 0} → (K → K → Bool) → K → List (K × ℤ) → ℤ
coefficient_at same k [] = pos 0
coefficient_at same k (t ∷ ts) = cond (same t.0 k) t.1 (pos 0) +ℤ coefficient_at same k ts

abbrev pub HaveSameCoefficients : {K : Type 0} → (K → K → Bool) → List (K × ℤ) →
    List (K × ℤ) → Type 0
HaveSameCoefficients {K} same ts us = (k : K) → coefficient_at same k ts ≡ coefficient_at same k us

abbrev pub size_of : {K : Type 0} → List (K × ℤ) → ℕ
size_of ts = total (λ t. unsigned_abs t.1) ts

abbrev pub join_onto : {K : Type 0} → (K → K → Bool) → K × ℤ → List (K × ℤ) → List (K × ℤ)
join_onto same t [] = t ∷ []
join_onto same t (u ∷ us) =
    cond (same u.0 t.0) (join_onto same (t.0, t.1 +ℤ u.1) us) (t ∷ join_onto same u us)

abbrev pub joined : {K : Type 0} → (K → K → Bool) → List (K × ℤ) → List (K × ℤ)
joined same [] = []
joined same (t ∷ ts) = join_onto same t ts

abbrev pub without_zeros : {K : Type 0} → List (K × ℤ) → List (K × ℤ)
without_zeros ts = filter (λ t. not (unsigned_abs t.1 == 0)) ts

pub record IsSumOf {K : Type 0} (cmp : K → K → Ordering) (us ts : List (K × ℤ)) : Type 0 where
  pub ascending : IsStrictlySortedBy cmp (keys ts)
  pub coefficients : HaveSameCoefficients (same_by cmp) ts us
  pub nonzero : AllByRecursion (λ t. t.1 ≢ pos 0) ts
  pub size : size_of ts ≤ size_of us

abbrev pub is_below : ℤ → Bool
is_below (pos n) = false
is_below (negsuc n) = true

abbrev pub product_of : List ℤ → ℤ
product_of [] = pos 1
product_of (z ∷ zs) = z *ℤ product_of zs

abbrev pub size_of_product : List ℤ → ℕ
size_of_product [] = 1
size_of_product (z ∷ zs) = unsigned_abs z * size_of_product zs
