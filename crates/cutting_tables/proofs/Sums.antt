-- Sums by key, of lists that are filtered, put together, given other keys.
use Rattle.std.proofs.Common.{◌≡◌, ℕ, zero, ◌+◌, ◌*◌, Bool, true, false, cond, List, [], ◌∷◌, ◌++◌, flat_map, filter, refl, sym, ap, ◌∙◌, arith}
use Rattle.exact_sums.specs.Saturating.{saturated}
use Rattle.exact_sums.specs.Sums.{total}
use Rattle.exact_sums.specs.Keyed.{IsExactTest, sum_at, sum_with, HaveSameSaturatedSums, rekeyed, products_with}
use Rattle.exact_sums.proofs.KeyedLaws.{sum_at-append, sum_with_at, sum_with-rekeyed, sum_with-products_with, same_saturated_sum_with}

nothing_at : (d : Bool) → zero ≡ cond d zero zero
nothing_at true = refl
nothing_at false = refl

-- one more term of a filtered list
kept_at : (a d : Bool) (c s f : ℕ) → (a ≡ true → d ≡ true) → f ≡ cond d s 0 → cond a c 0 + f ≡ cond d (cond a c 0 + s) 0
kept_at true true c s f h e = omega (arith, e)
kept_at true false c s f h e = let n = h refl in absurd cc
kept_at false true c s f h e = omega (arith, e)
kept_at false false c s f h e = omega (arith, e)

lost_at : (a d : Bool) (c s f : ℕ) → (a ≡ true → d ≡ false) → f ≡ cond d s 0 → f ≡ cond d (cond a c 0 + s) 0
lost_at true true c s f h e = let n = h refl in absurd cc
lost_at true false c s f h e = e
lost_at false true c s f h e = omega (arith, e)
lost_at false false c s f h e = e

module _ {K : Type 0} (same : K → K → Bool) where
  pub same_trans : (xs ys zs : List (K × ℕ)) → HaveSameSaturatedSums same xs ys → HaveSameSaturatedSums same ys zs → HaveSameSaturatedSums same xs zs
  same_trans xs ys zs h g = λ k. h k ∙ g k

  pub same_append : (xs us ys vs : List (K × ℕ)) → HaveSameSaturatedSums same xs us → HaveSameSaturatedSums same ys vs →
      HaveSameSaturatedSums same (xs ++ ys) (us ++ vs)
  same_append xs us ys vs h g = λ k.
      let a = sum_at-append same k xs ys in
      let b = sum_at-append same k us vs in
      omega (arith, a, b, h k, g k)

  pub same_flat_map : {X : Type 0} (f g : X → List (K × ℕ)) → ((x : X) → HaveSameSaturatedSums same (f x) (g x)) → (xs : List X) →
      HaveSameSaturatedSums same (flat_map f xs) (flat_map g xs)
  same_flat_map f g h [] = λ k. refl
  same_flat_map f g h (x ∷ xs) = same_append (f x) (g x) (flat_map f xs) (flat_map g xs) (h x) (same_flat_map f g h xs)

  pub sum_at-flat_map : {X : Type 0} (k : K) (f : X → List (K × ℕ)) (xs : List X) → sum_at same k (flat_map f xs) ≡ total (λ x. sum_at same k (f x)) xs
  sum_at-flat_map k f [] = refl
  sum_at-flat_map k f (x ∷ xs) = sum_at-append same k (f x) (flat_map f xs) ∙ ap (λ (n : ℕ). sum_at same k (f x) + n) (sum_at-flat_map k f xs)

  module _ (o : IsExactTest same) where
    sum_at-filter : (q : K → Bool) (k : K) (xs : List (K × ℕ)) → sum_at same k (filter (λ e. q e.0) xs) ≡ cond (q k) (sum_at same k xs) 0
    sum_at-filter q k [] = nothing_at (q k)
    sum_at-filter q k (x ∷ xs) =
        let rest = filter (λ (e : K × ℕ). q e.0) xs in
        (elim (q x.0) as (λ b. q x.0 ≡ b → sum_at same k (cond b (x ∷ rest) rest) ≡ cond (q k) (cond (same x.0 k) x.1 0 + sum_at same k xs) 0) [
          | true ↦ λ e. kept_at (same x.0 k) (q k) x.1 (sum_at same k xs) (sum_at same k rest) (λ s. ap q (sym (o.only x.0 k s)) ∙ e) (sum_at-filter q k xs)
          | false ↦ λ e. lost_at (same x.0 k) (q k) x.1 (sum_at same k xs) (sum_at same k rest) (λ s. ap q (sym (o.only x.0 k s)) ∙ e) (sum_at-filter q k xs)
        ]) refl

    pub same_filtered : (q : K → Bool) (xs ys : List (K × ℕ)) → HaveSameSaturatedSums same xs ys →
        HaveSameSaturatedSums same (filter (λ e. q e.0) xs) (filter (λ e. q e.0) ys)
    same_filtered q xs ys h = λ k.
        ap saturated (sum_at-filter q k xs)
        ∙ (elim (q k) as (λ b. saturated (cond b (sum_at same k xs) 0) ≡ saturated (cond b (sum_at same k ys) 0)) [ true ↦ h k | false ↦ refl ])
        ∙ ap saturated (sym (sum_at-filter q k ys))

    rekeyed_sum : {J : Type 0} (sameJ : J → J → Bool) (h : K → J) (j : J) (xs : List (K × ℕ)) →
        sum_at sameJ j (rekeyed h xs) ≡ sum_with (λ k. cond (sameJ (h k) j) 1 0) xs
    rekeyed_sum sameJ h j xs = sym (sum_with_at sameJ j (rekeyed h xs)) ∙ sum_with-rekeyed (λ x. cond (sameJ x j) 1 0) h xs

    pub same_rekeyed : {J : Type 0} (sameJ : J → J → Bool) (h : K → J) (xs ys : List (K × ℕ)) → HaveSameSaturatedSums same xs ys →
        HaveSameSaturatedSums sameJ (rekeyed h xs) (rekeyed h ys)
    same_rekeyed sameJ h xs ys e = λ j.
        ap saturated (rekeyed_sum sameJ h j xs)
        ∙ same_saturated_sum_with same o (λ k. cond (sameJ (h k) j) 1 0) xs ys e
        ∙ ap saturated (sym (rekeyed_sum sameJ h j ys))

    pub same_products_with : {L J : Type 0} (sameL : L → L → Bool) (factor : J → K → ℕ) (op : J → K → L) (j : J) (xs ys : List (K × ℕ)) →
        HaveSameSaturatedSums same xs ys →
        HaveSameSaturatedSums sameL (products_with factor op j xs) (products_with factor op j ys)
    same_products_with sameL factor op j xs ys e = λ l.
        let one : (zs : List (K × ℕ)) → sum_at sameL l (products_with factor op j zs) ≡ sum_with (λ k. factor j k * cond (sameL (op j k) l) 1 0) zs =
        λ zs. sym (sum_with_at sameL l (products_with factor op j zs)) ∙ sum_with-products_with (λ x. cond (sameL x l) 1 0) factor op j zs in
        ap saturated (one xs) ∙ same_saturated_sum_with same o (λ k. factor j k * cond (sameL (op j k) l) 1 0) xs ys e ∙ ap saturated (sym (one ys))
