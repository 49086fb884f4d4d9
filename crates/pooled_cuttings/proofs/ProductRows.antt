-- Rows of products, term by term.
use Rattle.std.proofs.Common.{◌≡◌, ℕ, ◌*◌, ℤ, List, [], ◌∷◌, ◌++◌, filter, flat_map, refl, sym, ap, ◌∙◌}
use Rattle.std.proofs.lemmas.List.Elements.{filter-append}
use Rattle.exact_sums.specs.Saturating.{saturated}
use Rattle.exact_sums.specs.Keyed.{rekeyed, scaled, products, products_with, saturated_terms}
use Rattle.degree_numbers.specs.declared.types.Types.{Types}
use Rattle.cutting_tables.specs.Keys.{Opened}
use Rattle.pooled_cuttings.specs.Products.{is_low, kept_terms}
use Rattle.pooled_cuttings.proofs.Means.{pair_of}

pub saturated_terms-append : {K : Type 0} (xs ys : List (K × ℕ)) → saturated_terms (xs ++ ys) ≡ saturated_terms xs ++ saturated_terms ys
saturated_terms-append [] ys = refl
saturated_terms-append {K} (x ∷ xs) ys = ap (λ (ts : List (K × ℕ)). pair_of x.0 (saturated x.1) ∷ ts) (saturated_terms-append xs ys)

pub kept_terms-append : (ty : Types) (most : ℤ) (xs ys : List (Opened × ℕ)) → kept_terms ty most (xs ++ ys) ≡ kept_terms ty most xs ++ kept_terms ty most ys
kept_terms-append ty most xs ys =
    ap saturated_terms (filter-append (λ (e : Opened × ℕ). is_low ty most e.0.part) xs ys)
    ∙ saturated_terms-append (filter (λ (e : Opened × ℕ). is_low ty most e.0.part) xs) (filter (λ (e : Opened × ℕ). is_low ty most e.0.part) ys)

-- products of keys that lines mean, with what is kept of them
module _ {K J Z A B : Type 0} (keep : List (Z × ℕ) → List (Z × ℕ)) (parts : (xs ys : List (Z × ℕ)) → keep (xs ++ ys) ≡ keep xs ++ keep ys)
    (factor : K → J → ℕ) (op : K → J → Z) (f : A → K) (h : B → J) where
  abbrev pub one : A × ℕ → B × ℕ → List (Z × ℕ)
  one x y = keep ((op (f x.0) (h y.0), x.1 * (factor (f x.0) (h y.0) * y.1)) ∷ [])

  abbrev pub row : A × ℕ → List (B × ℕ) → List (Z × ℕ)
  row x ys = keep (scaled x.1 (products_with factor op (f x.0) (rekeyed h ys)))

  abbrev pub rows : List (A × ℕ) → List (B × ℕ) → List (Z × ℕ)
  rows xs ys = keep (products factor op (rekeyed f xs) (rekeyed h ys))

  pub row_parts : (x : A × ℕ) (y : B × ℕ) (ys : List (B × ℕ)) → row x (y ∷ ys) ≡ one x y ++ row x ys
  row_parts x y ys = parts ((op (f x.0) (h y.0), x.1 * (factor (f x.0) (h y.0) * y.1)) ∷ []) (scaled x.1 (products_with factor op (f x.0) (rekeyed h ys)))

  pub rows_parts : (ys : List (B × ℕ)) (x : A × ℕ) (xs : List (A × ℕ)) → rows (x ∷ xs) ys ≡ row x ys ++ rows xs ys
  rows_parts ys x xs = parts (scaled x.1 (products_with factor op (f x.0) (rekeyed h ys))) (products factor op (rekeyed f xs) (rekeyed h ys))
