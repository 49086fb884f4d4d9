-- Products that are dropped.
use Rattle.std.proofs.Common.{◌≡◌, ℕ, ◌*◌, Bool, true, false, cond, List, [], ◌∷◌, ◌++◌, flat_map, filter, refl, sym, ap, ◌∙◌}
use Rattle.std.specs.List.{AllByRecursion}
use Rattle.std.proofs.lemmas.List.Elements.{filter-append}
use Rattle.exact_sums.specs.Keyed.{scaled, products_with, products}
use Rattle.tree_cuttings.proofs.Positive.{all_append}

pub filter-flat_map : {X Y : Type 0} (p : Y → Bool) (f : X → List Y) (xs : List X) → filter p (flat_map f xs) ≡ flat_map (λ x. filter p (f x)) xs
filter-flat_map p f [] = refl
filter-flat_map p f (x ∷ xs) = filter-append p (f x) (flat_map f xs) ∙ ap (λ ys. filter p (f x) ++ ys) (filter-flat_map p f xs)

module _ {K J L : Type 0} (factor : K → J → ℕ) (op : K → J → L) (q : L → Bool) (Q : J → Type 0) where
  abbrev row : ℕ → K → List (J × ℕ) → List (L × ℕ)
  row n k ys = scaled n (products_with factor op k ys)

  abbrev kept : List (L × ℕ) → List (L × ℕ)
  kept xs = filter (λ e. q e.0) xs

  abbrev AllOf : List (J × ℕ) → Type 0
  AllOf ys = AllByRecursion (λ y. Q y.0) ys

  row_kept : (r : J → Bool) (n : ℕ) (k : K) → ((j : J) → Q j → q (op k j) ≡ true → r j ≡ true) → (ys : List (J × ℕ)) → AllOf ys →
      kept (row n k ys) ≡ kept (row n k (filter (λ y. r y.0) ys))
  row_kept r n k h [] a = refl
  row_kept r n k h (y ∷ ys) a =
      let z : L × ℕ = (op k y.0, n * (factor k y.0 * y.1)) in
      let some = kept (row n k ys) in
      let rest = filter (λ (y : J × ℕ). r y.0) ys in
      let ih = row_kept r n k h ys a.1 in
      (elim (r y.0) as (λ b. r y.0 ≡ b → cond (q (op k y.0)) (z ∷ some) some ≡ kept (row n k (cond b (y ∷ rest) rest))) [
        | true ↦ λ e. ap (λ zs. cond (q (op k y.0)) (z ∷ zs) zs) ih
        | false ↦ λ e.
            (elim (q (op k y.0)) as (λ d. q (op k y.0) ≡ d → cond d (z ∷ some) some ≡ kept (row n k rest)) [
              | true ↦ λ f. let g = h y.0 a.0 f in absurd cc
              | false ↦ λ f. ih
            ]) refl
      ]) refl

  row_none : (n : ℕ) (k : K) → ((j : J) → Q j → q (op k j) ≡ false) → (ys : List (J × ℕ)) → AllOf ys → kept (row n k ys) ≡ []
  row_none n k h [] a = refl
  row_none n k h (y ∷ ys) a =
      let z : L × ℕ = (op k y.0, n * (factor k y.0 * y.1)) in
      let some = kept (row n k ys) in
      ap (λ b. cond b (z ∷ some) some) (h y.0 a.0) ∙ row_none n k h ys a.1

  -- products with what can give nothing that is kept may be left out
  pub products_none : ((k : K) (j : J) → Q j → q (op k j) ≡ false) → (xs : List (K × ℕ)) (ys : List (J × ℕ)) → AllOf ys → kept (products factor op xs ys) ≡ []
  products_none h [] ys a = refl
  products_none h (x ∷ xs) ys a =
      filter-append (λ (e : L × ℕ). q e.0) (row x.1 x.0 ys) (products factor op xs ys)
      ∙ ap (λ zs. zs ++ kept (products factor op xs ys)) (row_none x.1 x.0 (h x.0) ys a)
      ∙ products_none h xs ys a

  pub products_right : (P : K → Type 0) (r : J → Bool) → ((k : K) (j : J) → P k → Q j → q (op k j) ≡ true → r j ≡ true) →
      (xs : List (K × ℕ)) (ys : List (J × ℕ)) → AllByRecursion (λ x. P x.0) xs → AllOf ys →
      kept (products factor op xs ys) ≡ kept (products factor op xs (filter (λ y. r y.0) ys))
  products_right P r h [] ys b a = refl
  products_right P r h (x ∷ xs) ys b a =
      let rest = filter (λ (y : J × ℕ). r y.0) ys in
      filter-append (λ (e : L × ℕ). q e.0) (row x.1 x.0 ys) (products factor op xs ys)
      ∙ ap (λ zs. zs ++ kept (products factor op xs ys)) (row_kept r x.1 x.0 (λ j c. h x.0 j b.0 c) ys a)
      ∙ ap (λ zs. kept (row x.1 x.0 rest) ++ zs) (products_right P r h xs ys b.1 a)
      ∙ sym (filter-append (λ (e : L × ℕ). q e.0) (row x.1 x.0 rest) (products factor op xs rest))

  pub products_left : (P : K → Type 0) (r : K → Bool) → ((k : K) (j : J) → P k → Q j → q (op k j) ≡ true → r k ≡ true) →
      (xs : List (K × ℕ)) (ys : List (J × ℕ)) → AllByRecursion (λ x. P x.0) xs → AllOf ys →
      kept (products factor op xs ys) ≡ kept (products factor op (filter (λ x. r x.0) xs) ys)
  products_left P r h [] ys b a = refl
  products_left P r h (x ∷ xs) ys b a =
      let rest = filter (λ (x : K × ℕ). r x.0) xs in
      let ih = products_left P r h xs ys b.1 a in
      filter-append (λ (e : L × ℕ). q e.0) (row x.1 x.0 ys) (products factor op xs ys)
      ∙ (elim (r x.0) as (λ d. r x.0 ≡ d → kept (row x.1 x.0 ys) ++ kept (products factor op xs ys) ≡ kept (products factor op (cond d (x ∷ rest) rest) ys)) [
        | true ↦ λ e. ap (λ zs. kept (row x.1 x.0 ys) ++ zs) ih ∙ sym (filter-append (λ (e : L × ℕ). q e.0) (row x.1 x.0 ys) (products factor op rest ys))
        | false ↦ λ e.
            let none : (j : J) → Q j → q (op x.0 j) ≡ false =
            λ j c. (elim (q (op x.0 j)) as (λ d. q (op x.0 j) ≡ d → d ≡ false) [
              | true ↦ λ f. let g = h x.0 j b.0 c f in absurd cc
              | false ↦ λ f. refl
            ]) refl in
            ap (λ zs. zs ++ kept (products factor op xs ys)) (row_none x.1 x.0 none ys a) ∙ ih
      ]) refl

  -- members of products
  all_row : (R : L → Type 0) (n : ℕ) (k : K) → ((j : J) → Q j → R (op k j)) → (ys : List (J × ℕ)) → AllOf ys → AllByRecursion (λ z. R z.0) (row n k ys)
  all_row R n k h [] a = tt
  all_row R n k h (y ∷ ys) a = (h y.0 a.0, all_row R n k h ys a.1)

  pub all_products : (P : K → Type 0) (R : L → Type 0) → ((k : K) (j : J) → P k → Q j → R (op k j)) → (xs : List (K × ℕ)) (ys : List (J × ℕ)) →
      AllByRecursion (λ x. P x.0) xs → AllOf ys →
      AllByRecursion (λ z. R z.0) (products factor op xs ys)
  all_products P R h [] ys b a = tt
  all_products P R h (x ∷ xs) ys b a = all_append (λ (z : L × ℕ). R z.0) (row x.1 x.0 ys) (products factor op xs ys)
      (all_row R x.1 x.0 (λ j c. h x.0 j b.0 c) ys a) (all_products P R h xs ys b.1 a)
