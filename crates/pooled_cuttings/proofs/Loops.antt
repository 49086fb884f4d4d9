-- What the loops over lines put behind others, line by line.
use Rattle.std.proofs.Common.{◌≡◌, ℕ, ℤ, ◌+◌, ◌*◌, ◌<◌, ◌≤◌, List, [], ◌∷◌, ◌++◌, map, flat_map, filter, drop, length, get_or, refl, sym, ap, ◌∙◌, subst}
use Rattle.std.specs.List.{AllByRecursion}
use Rattle.std.proofs.lemmas.List.Elements.{filter-append}
use Rattle.std.proofs.lemmas.List.{get_or_default}
use Rattle.exact_sums.specs.Keyed.{rekeyed, scaled, products, products_with, saturated_terms}
use Rattle.degree_numbers.specs.declared.types.Types.{Types}
use Rattle.degree_numbers.specs.declared.multi.Multi.{Multi}
use Rattle.plain_trees.specs.Coproducts.{Extracted}
use Rattle.cutting_tables.specs.Keys.{Opened, inside, inside_factor, outside, outside_factor, beside, closes, closing}
use Rattle.pooled_cuttings.specs.declared.keys.OpenKey.{OpenKey}
use Rattle.pooled_cuttings.specs.declared.keys.ExtractKey.{ExtractKey}
use Rattle.pooled_cuttings.specs.declared.steps.EdgeStep.{EdgeStep}
use Rattle.pooled_cuttings.specs.Groves.{GroveContent, IsGrove, IsGrownGrove}
use Rattle.pooled_cuttings.specs.Lines.{opened_in, extracted_in, opened_terms_in, extracted_terms_in, IsOpenKey, IsExtractKey, IsOpenLine, IsExtractLine, AreOpenLines, AreExtractLines}
use Rattle.pooled_cuttings.specs.Products.{kept_terms, seed, touched_products, inside_term, beside_term, over, over_term, raised_term, IsInsideFit, IsOutsideFit, IsBesideFit, IsRaisedFit, IsOverFit, AreInsideFit, AreOutsideFit, AreBesideFit}
use Rattle.pooled_cuttings.proofs.Means.{pair_of, opened_grown, extracted_grown, open_terms_grown, extract_terms_grown, open_line_grown, extract_line_grown, open_lines_grown, extract_lines_grown}
use Rattle.pooled_cuttings.proofs.ProductRows.{saturated_terms-append, kept_terms-append}
use Rattle.pooled_cuttings.proofs.Rows.{row_step, all_at}

abbrev pub inside_one : GroveContent → EdgeStep → OpenKey × ℕ → OpenKey × ℕ → List (Opened × ℕ)
inside_one g e x y = kept_terms g.pool.types e.most (inside_term e (opened_in g x.0, x.1) (opened_in g y.0, y.1) ∷ [])

abbrev pub inside_row : GroveContent → EdgeStep → OpenKey × ℕ → List (OpenKey × ℕ) → List (Opened × ℕ)
inside_row g e x ys =
    kept_terms g.pool.types e.most
    (scaled x.1 (products_with inside_factor (inside e.kind.0 e.p.entries) (opened_in g x.0) (opened_terms_in g ys)))

abbrev pub inside_rows : GroveContent → EdgeStep → List (OpenKey × ℕ) → List (OpenKey × ℕ) → List (Opened × ℕ)
inside_rows g e ys xs =
    kept_terms g.pool.types e.most (products inside_factor (inside e.kind.0 e.p.entries) (opened_terms_in g xs) (opened_terms_in g ys))

abbrev pub raised_one : GroveContent → EdgeStep → List ℕ → OpenKey × ℕ → List (Opened × ℕ)
raised_one g e s y = kept_terms g.pool.types e.most (raised_term s (opened_in g y.0, y.1) ∷ [])

abbrev pub raised_row : GroveContent → EdgeStep → List ℕ → List (OpenKey × ℕ) → List (Opened × ℕ)
raised_row g e s ys = kept_terms g.pool.types e.most (map (raised_term s) (opened_terms_in g ys))

abbrev pub over_one : GroveContent → ℕ → List ℕ → ExtractKey × ℕ → OpenKey × ℕ → List (Opened × ℕ)
over_one g k p x y = saturated_terms (over_term k p (extracted_in g x.0, x.1) (opened_in g y.0, y.1) ∷ [])

abbrev pub over_row : GroveContent → ℕ → List ℕ → ExtractKey × ℕ → List (OpenKey × ℕ) → List (Opened × ℕ)
over_row g k p x ys =
    saturated_terms (scaled x.1 (products_with (λ x y. 1) (over k p) (extracted_in g x.0) (opened_terms_in g ys)))

abbrev pub over_rows : GroveContent → ℕ → List ℕ → List (OpenKey × ℕ) → List (ExtractKey × ℕ) → List (Opened × ℕ)
over_rows g k p ys xs =
    saturated_terms (products (λ x y. 1) (over k p) (extracted_terms_in g xs) (opened_terms_in g ys))

abbrev pub outside_rows : GroveContent → EdgeStep → List ℕ → List (OpenKey × ℕ) → List (ExtractKey × ℕ) → List (Opened × ℕ)
outside_rows g e s ys xs =
    kept_terms g.pool.types e.most
    (products (outside_factor s) (outside s e.kind.0 e.p.entries) (extracted_terms_in g xs) (opened_terms_in g ys))

abbrev pub outside_shifts : GroveContent → EdgeStep → List (ExtractKey × ℕ) → List (OpenKey × ℕ) → List Multi → List (Opened × ℕ)
outside_shifts g e xs ys ss =
    kept_terms g.pool.types e.most
    (flat_map (λ s. products (outside_factor s) (outside s e.kind.0 e.p.entries) (extracted_terms_in g xs) (opened_terms_in g ys))
    (map (λ m. m.entries) ss))

abbrev pub beside_one : GroveContent → EdgeStep → ExtractKey × ℕ → ExtractKey × ℕ → List (Extracted × ℕ)
beside_one g e x y = saturated_terms (beside_term e (extracted_in g x.0, x.1) (extracted_in g y.0, y.1) ∷ [])

abbrev pub beside_row : GroveContent → EdgeStep → ExtractKey × ℕ → List (ExtractKey × ℕ) → List (Extracted × ℕ)
beside_row g e x ys =
    saturated_terms (scaled x.1 (products_with (λ x y. 1) (beside e.kind.0 e.p.entries) (extracted_in g x.0) (extracted_terms_in g ys)))

abbrev pub beside_rows : GroveContent → EdgeStep → List (ExtractKey × ℕ) → List (ExtractKey × ℕ) → List (Extracted × ℕ)
beside_rows g e ys xs =
    saturated_terms (products (λ x y. 1) (beside e.kind.0 e.p.entries) (extracted_terms_in g xs) (extracted_terms_in g ys))

abbrev pub closed_one : GroveContent → OpenKey × ℕ → List (Extracted × ℕ)
closed_one g x = rekeyed closing (filter (λ e. closes g.pool.types e.0) ((opened_in g x.0, x.1) ∷ []))

abbrev pub closed_row : GroveContent → List (OpenKey × ℕ) → List (Extracted × ℕ)
closed_row g xs = rekeyed closing (filter (λ e. closes g.pool.types e.0) (opened_terms_in g xs))

rekeyed-append : {K J : Type 0} (f : K → J) (xs ys : List (K × ℕ)) → rekeyed f (xs ++ ys) ≡ rekeyed f xs ++ rekeyed f ys
rekeyed-append f [] ys = refl
rekeyed-append {K} {J} f (x ∷ xs) ys = ap (λ (ts : List (J × ℕ)). pair_of (f x.0) x.1 ∷ ts) (rekeyed-append f xs ys)

-- what is made of a line in a grove that has grown
module _ (g h : GroveContent) (is : IsGrove g) (a : IsGrownGrove g h) where
  two_open : {Z : Type 0} (f : Types → Opened → Opened → Z) (x y : OpenKey) → IsOpenKey g x → IsOpenKey g y →
      f h.pool.types (opened_in h x) (opened_in h y) ≡ f g.pool.types (opened_in g x) (opened_in g y)
  two_open f x y i j =
      ap (λ (ty : Types). f ty (opened_in h x) (opened_in h y)) a.pool.types
      ∙ ap (λ (z : Opened). f g.pool.types z (opened_in h y)) (opened_grown g h x is a i)
      ∙ ap (f g.pool.types (opened_in g x)) (opened_grown g h y is a j)

  with_open : {Z : Type 0} (f : Types → Extracted → Opened → Z) (x : ExtractKey) (y : OpenKey) → IsExtractKey g x → IsOpenKey g y →
      f h.pool.types (extracted_in h x) (opened_in h y) ≡ f g.pool.types (extracted_in g x) (opened_in g y)
  with_open f x y i j =
      ap (λ (ty : Types). f ty (extracted_in h x) (opened_in h y)) a.pool.types
      ∙ ap (λ (z : Extracted). f g.pool.types z (opened_in h y)) (extracted_grown g h x is a i)
      ∙ ap (f g.pool.types (extracted_in g x)) (opened_grown g h y is a j)

  two_closed : {Z : Type 0} (f : Types → Extracted → Extracted → Z) (x y : ExtractKey) → IsExtractKey g x → IsExtractKey g y →
      f h.pool.types (extracted_in h x) (extracted_in h y) ≡ f g.pool.types (extracted_in g x) (extracted_in g y)
  two_closed f x y i j =
      ap (λ (ty : Types). f ty (extracted_in h x) (extracted_in h y)) a.pool.types
      ∙ ap (λ (z : Extracted). f g.pool.types z (extracted_in h y)) (extracted_grown g h x is a i)
      ∙ ap (f g.pool.types (extracted_in g x)) (extracted_grown g h y is a j)

  module _ (k : ℕ) (p : List ℕ) where
    pub over_one_grown : (x : ExtractKey × ℕ) (y : OpenKey × ℕ) → IsExtractLine g x → IsOpenLine g y → over_one h k p x y ≡ over_one g k p x y
    over_one_grown x y i j = with_open (λ ty u v. saturated_terms (over_term k p (u, x.1) (v, y.1) ∷ [])) x.0 y.0 i.0 j.0

    pub over_fit_grown : (x : ExtractKey × ℕ) (y : OpenKey × ℕ) → IsExtractLine g x → IsOpenLine g y → IsOverFit g.pool.types k p (extracted_in g x.0) (opened_in g y.0) →
        IsOverFit h.pool.types k p (extracted_in h x.0) (opened_in h y.0)
    over_fit_grown x y i j fit = subst (λ (ty : Types). IsOverFit ty k p (extracted_in h x.0) (opened_in h y.0)) (sym a.pool.types)
        (subst (λ (z : Extracted). IsOverFit g.pool.types k p z (opened_in h y.0)) (sym (extracted_grown g h x.0 is a i.0))
        (subst (λ (z : Opened). IsOverFit g.pool.types k p (extracted_in g x.0) z) (sym (opened_grown g h y.0 is a j.0)) fit))

    pub over_row_grown : (x : ExtractKey × ℕ) (ys : List (OpenKey × ℕ)) → IsExtractLine g x → AreOpenLines g ys → over_row h k p x ys ≡ over_row g k p x ys
    over_row_grown x ys i j =
        ap (λ (z : Extracted). saturated_terms (scaled x.1 (products_with (λ x y. 1) (over k p) z (opened_terms_in h ys)))) (extracted_grown g h x.0 is a i.0)
        ∙ ap (λ (ts : List (Opened × ℕ)). saturated_terms (scaled x.1 (products_with (λ x y. 1) (over k p) (extracted_in g x.0) ts)))
        (open_terms_grown g h ys is a j)

    pub over_fits_grown : (x : ExtractKey × ℕ) (ys : List (OpenKey × ℕ)) → IsExtractLine g x → AreOpenLines g ys →
        AllByRecursion (λ y. IsOverFit g.pool.types k p (extracted_in g x.0) (opened_in g y.0)) ys →
        AllByRecursion (λ y. IsOverFit h.pool.types k p (extracted_in h x.0) (opened_in h y.0)) ys
    over_fits_grown x [] i j fits = tt
    over_fits_grown x (y ∷ ys) i j fits = (over_fit_grown x y i j.0 fits.0, over_fits_grown x ys i j.1 fits.1)

module _ (g h : GroveContent) (is : IsGrove g) (a : IsGrownGrove g h) (e : EdgeStep) where
  pub inside_one_grown : (x y : OpenKey × ℕ) → IsOpenLine g x → IsOpenLine g y → inside_one h e x y ≡ inside_one g e x y
  inside_one_grown x y i j = two_open g h is a (λ ty u v. kept_terms ty e.most (inside_term e (u, x.1) (v, y.1) ∷ [])) x.0 y.0 i.0 j.0

  pub inside_fit_grown : (x y : OpenKey × ℕ) → IsOpenLine g x → IsOpenLine g y → IsInsideFit g.pool.types e (opened_in g x.0) (opened_in g y.0) →
      IsInsideFit h.pool.types e (opened_in h x.0) (opened_in h y.0)
  inside_fit_grown x y i j fit = subst (λ (ty : Types). IsInsideFit ty e (opened_in h x.0) (opened_in h y.0)) (sym a.pool.types)
      (subst (λ (z : Opened). IsInsideFit g.pool.types e z (opened_in h y.0)) (sym (opened_grown g h x.0 is a i.0))
      (subst (λ (z : Opened). IsInsideFit g.pool.types e (opened_in g x.0) z) (sym (opened_grown g h y.0 is a j.0)) fit))

  pub inside_row_grown : (x : OpenKey × ℕ) (ys : List (OpenKey × ℕ)) → IsOpenLine g x → AreOpenLines g ys → inside_row h e x ys ≡ inside_row g e x ys
  inside_row_grown x ys i j =
      ap (λ (ty : Types). kept_terms ty e.most (scaled x.1 (products_with inside_factor (inside e.kind.0 e.p.entries) (opened_in h x.0) (opened_terms_in h ys)))) a.pool.types
      ∙ ap (λ (z : Opened). kept_terms g.pool.types e.most (scaled x.1 (products_with inside_factor (inside e.kind.0 e.p.entries) z (opened_terms_in h ys)))) (opened_grown g h x.0 is a i.0)
      ∙ ap (λ (ts : List (Opened × ℕ)). kept_terms g.pool.types e.most (scaled x.1 (products_with inside_factor (inside e.kind.0 e.p.entries) (opened_in g x.0) ts)))
      (open_terms_grown g h ys is a j)

  pub inside_fits_grown : (x : OpenKey × ℕ) (ys : List (OpenKey × ℕ)) → IsOpenLine g x → AreOpenLines g ys →
      AllByRecursion (λ y. IsInsideFit g.pool.types e (opened_in g x.0) (opened_in g y.0)) ys →
      AllByRecursion (λ y. IsInsideFit h.pool.types e (opened_in h x.0) (opened_in h y.0)) ys
  inside_fits_grown x [] i j fits = tt
  inside_fits_grown x (y ∷ ys) i j fits = (inside_fit_grown x y i j.0 fits.0, inside_fits_grown x ys i j.1 fits.1)

  module _ (s : List ℕ) where
    pub raised_one_grown : (y : OpenKey × ℕ) → IsOpenLine g y → raised_one h e s y ≡ raised_one g e s y
    raised_one_grown y j = two_open g h is a (λ ty u v. kept_terms ty e.most (raised_term s (v, y.1) ∷ [])) y.0 y.0 j.0 j.0

    pub raised_fit_grown : (y : OpenKey × ℕ) → IsOpenLine g y → IsRaisedFit g.pool.types e s (opened_in g y.0) → IsRaisedFit h.pool.types e s (opened_in h y.0)
    raised_fit_grown y j fit = subst (λ (ty : Types). IsRaisedFit ty e s (opened_in h y.0)) (sym a.pool.types)
        (subst (λ (z : Opened). IsRaisedFit g.pool.types e s z) (sym (opened_grown g h y.0 is a j.0)) fit)

    pub outside_fit_grown : (x : ExtractKey × ℕ) (y : OpenKey × ℕ) → IsExtractLine g x → IsOpenLine g y → IsOutsideFit g.pool.types e s (extracted_in g x.0) (opened_in g y.0) →
        IsOutsideFit h.pool.types e s (extracted_in h x.0) (opened_in h y.0)
    outside_fit_grown x y i j fit = subst (λ (ty : Types). IsOutsideFit ty e s (extracted_in h x.0) (opened_in h y.0)) (sym a.pool.types)
        (subst (λ (z : Extracted). IsOutsideFit g.pool.types e s z (opened_in h y.0)) (sym (extracted_grown g h x.0 is a i.0))
        (subst (λ (z : Opened). IsOutsideFit g.pool.types e s (extracted_in g x.0) z) (sym (opened_grown g h y.0 is a j.0)) fit))

    pub outside_fits_grown : (x : ExtractKey × ℕ) (ys : List (OpenKey × ℕ)) → IsExtractLine g x → AreOpenLines g ys →
        AllByRecursion (λ y. IsOutsideFit g.pool.types e s (extracted_in g x.0) (opened_in g y.0)) ys →
        AllByRecursion (λ y. IsOutsideFit h.pool.types e s (extracted_in h x.0) (opened_in h y.0)) ys
    outside_fits_grown x [] i j fits = tt
    outside_fits_grown x (y ∷ ys) i j fits = (outside_fit_grown x y i j.0 fits.0, outside_fits_grown x ys i j.1 fits.1)

    pub outside_all_fits_grown : (xs : List (ExtractKey × ℕ)) (ys : List (OpenKey × ℕ)) → AreExtractLines g xs → AreOpenLines g ys → AreOutsideFit g e s xs ys → AreOutsideFit h e s xs ys
    outside_all_fits_grown [] ys i j fits = tt
    outside_all_fits_grown (x ∷ xs) ys i j fits = (outside_fits_grown x ys i.0 j fits.0, outside_all_fits_grown xs ys i.1 j fits.1)

    pub outside_rows_grown : (xs : List (ExtractKey × ℕ)) (ys : List (OpenKey × ℕ)) → AreExtractLines g xs → AreOpenLines g ys → outside_rows h e s ys xs ≡ outside_rows g e s ys xs
    outside_rows_grown xs ys i j =
        ap (λ (ty : Types). kept_terms ty e.most (products (outside_factor s) (outside s e.kind.0 e.p.entries) (extracted_terms_in h xs) (opened_terms_in h ys))) a.pool.types
        ∙ ap (λ (zs : List (Extracted × ℕ)). kept_terms g.pool.types e.most (products (outside_factor s) (outside s e.kind.0 e.p.entries) zs (opened_terms_in h ys))) (extract_terms_grown g h xs is a i)
        ∙ ap (λ (ts : List (Opened × ℕ)). kept_terms g.pool.types e.most (products (outside_factor s) (outside s e.kind.0 e.p.entries) (extracted_terms_in g xs) ts))
        (open_terms_grown g h ys is a j)

  pub beside_one_grown : (x y : ExtractKey × ℕ) → IsExtractLine g x → IsExtractLine g y → beside_one h e x y ≡ beside_one g e x y
  beside_one_grown x y i j = two_closed g h is a (λ ty u v. saturated_terms (beside_term e (u, x.1) (v, y.1) ∷ [])) x.0 y.0 i.0 j.0

  pub beside_fit_grown : (x y : ExtractKey × ℕ) → IsExtractLine g x → IsExtractLine g y → IsBesideFit g.pool.types e (extracted_in g x.0) (extracted_in g y.0) →
      IsBesideFit h.pool.types e (extracted_in h x.0) (extracted_in h y.0)
  beside_fit_grown x y i j fit = subst (λ (ty : Types). IsBesideFit ty e (extracted_in h x.0) (extracted_in h y.0)) (sym a.pool.types)
      (subst (λ (z : Extracted). IsBesideFit g.pool.types e z (extracted_in h y.0)) (sym (extracted_grown g h x.0 is a i.0))
      (subst (λ (z : Extracted). IsBesideFit g.pool.types e (extracted_in g x.0) z) (sym (extracted_grown g h y.0 is a j.0)) fit))

  pub beside_row_grown : (x : ExtractKey × ℕ) (ys : List (ExtractKey × ℕ)) → IsExtractLine g x → AreExtractLines g ys → beside_row h e x ys ≡ beside_row g e x ys
  beside_row_grown x ys i j =
      ap (λ (z : Extracted). saturated_terms (scaled x.1 (products_with (λ x y. 1) (beside e.kind.0 e.p.entries) z (extracted_terms_in h ys)))) (extracted_grown g h x.0 is a i.0)
      ∙ ap (λ (ts : List (Extracted × ℕ)). saturated_terms (scaled x.1 (products_with (λ x y. 1) (beside e.kind.0 e.p.entries) (extracted_in g x.0) ts)))
      (extract_terms_grown g h ys is a j)

  pub beside_fits_grown : (x : ExtractKey × ℕ) (ys : List (ExtractKey × ℕ)) → IsExtractLine g x → AreExtractLines g ys →
      AllByRecursion (λ y. IsBesideFit g.pool.types e (extracted_in g x.0) (extracted_in g y.0)) ys →
      AllByRecursion (λ y. IsBesideFit h.pool.types e (extracted_in h x.0) (extracted_in h y.0)) ys
  beside_fits_grown x [] i j fits = tt
  beside_fits_grown x (y ∷ ys) i j fits = (beside_fit_grown x y i j.0 fits.0, beside_fits_grown x ys i j.1 fits.1)

pub closed_one_grown : (g h : GroveContent) (x : OpenKey × ℕ) → IsGrove g → IsGrownGrove g h → IsOpenLine g x → closed_one h x ≡ closed_one g x
closed_one_grown g h x is a i =
    ap (λ (ty : Types). rekeyed closing (filter (λ e. closes ty e.0) ((opened_in h x.0, x.1) ∷ []))) a.pool.types
    ∙ ap (λ (z : Opened). rekeyed closing (filter (λ e. closes g.pool.types e.0) ((z, x.1) ∷ []))) (opened_grown g h x.0 is a i.0)

-- rows, line by line
pub inside_row_parts : (g : GroveContent) (e : EdgeStep) (x y : OpenKey × ℕ) (ys : List (OpenKey × ℕ)) → inside_row g e x (y ∷ ys) ≡ inside_one g e x y ++ inside_row g e x ys
inside_row_parts g e x y ys =
    kept_terms-append g.pool.types e.most (inside_term e (opened_in g x.0, x.1) (opened_in g y.0, y.1) ∷ [])
    (scaled x.1 (products_with inside_factor (inside e.kind.0 e.p.entries) (opened_in g x.0) (opened_terms_in g ys)))

pub inside_rows_parts : (g : GroveContent) (e : EdgeStep) (ys : List (OpenKey × ℕ)) (x : OpenKey × ℕ) (xs : List (OpenKey × ℕ)) →
    inside_rows g e ys (x ∷ xs) ≡ inside_row g e x ys ++ inside_rows g e ys xs
inside_rows_parts g e ys x xs =
    kept_terms-append g.pool.types e.most (scaled x.1 (products_with inside_factor (inside e.kind.0 e.p.entries) (opened_in g x.0) (opened_terms_in g ys)))
    (products inside_factor (inside e.kind.0 e.p.entries) (opened_terms_in g xs) (opened_terms_in g ys))

pub raised_row_parts : (g : GroveContent) (e : EdgeStep) (s : List ℕ) (y : OpenKey × ℕ) (ys : List (OpenKey × ℕ)) →
    raised_row g e s (y ∷ ys) ≡ raised_one g e s y ++ raised_row g e s ys
raised_row_parts g e s y ys =
    kept_terms-append g.pool.types e.most (raised_term s (opened_in g y.0, y.1) ∷ []) (map (raised_term s) (opened_terms_in g ys))

pub over_row_parts : (g : GroveContent) (k : ℕ) (p : List ℕ) (x : ExtractKey × ℕ) (y : OpenKey × ℕ) (ys : List (OpenKey × ℕ)) →
    over_row g k p x (y ∷ ys) ≡ over_one g k p x y ++ over_row g k p x ys
over_row_parts g k p x y ys =
    saturated_terms-append (over_term k p (extracted_in g x.0, x.1) (opened_in g y.0, y.1) ∷ [])
    (scaled x.1 (products_with (λ x y. 1) (over k p) (extracted_in g x.0) (opened_terms_in g ys)))

pub over_rows_parts : (g : GroveContent) (k : ℕ) (p : List ℕ) (ys : List (OpenKey × ℕ)) (x : ExtractKey × ℕ) (xs : List (ExtractKey × ℕ)) →
    over_rows g k p ys (x ∷ xs) ≡ over_row g k p x ys ++ over_rows g k p ys xs
over_rows_parts g k p ys x xs =
    saturated_terms-append (scaled x.1 (products_with (λ x y. 1) (over k p) (extracted_in g x.0) (opened_terms_in g ys)))
    (products (λ x y. 1) (over k p) (extracted_terms_in g xs) (opened_terms_in g ys))

pub outside_shifts_parts : (g : GroveContent) (e : EdgeStep) (xs : List (ExtractKey × ℕ)) (ys : List (OpenKey × ℕ)) (s : Multi) (ss : List Multi) →
    outside_shifts g e xs ys (s ∷ ss) ≡ outside_rows g e s.entries ys xs ++ outside_shifts g e xs ys ss
outside_shifts_parts g e xs ys s ss =
    kept_terms-append g.pool.types e.most
    (products (outside_factor s.entries) (outside s.entries e.kind.0 e.p.entries) (extracted_terms_in g xs) (opened_terms_in g ys))
    (flat_map (λ s. products (outside_factor s) (outside s e.kind.0 e.p.entries) (extracted_terms_in g xs) (opened_terms_in g ys)) (map (λ m. m.entries) ss))

pub beside_row_parts : (g : GroveContent) (e : EdgeStep) (x y : ExtractKey × ℕ) (ys : List (ExtractKey × ℕ)) → beside_row g e x (y ∷ ys) ≡ beside_one g e x y ++ beside_row g e x ys
beside_row_parts g e x y ys =
    saturated_terms-append (beside_term e (extracted_in g x.0, x.1) (extracted_in g y.0, y.1) ∷ [])
    (scaled x.1 (products_with (λ x y. 1) (beside e.kind.0 e.p.entries) (extracted_in g x.0) (extracted_terms_in g ys)))

pub beside_rows_parts : (g : GroveContent) (e : EdgeStep) (ys : List (ExtractKey × ℕ)) (x : ExtractKey × ℕ) (xs : List (ExtractKey × ℕ)) →
    beside_rows g e ys (x ∷ xs) ≡ beside_row g e x ys ++ beside_rows g e ys xs
beside_rows_parts g e ys x xs =
    saturated_terms-append (scaled x.1 (products_with (λ x y. 1) (beside e.kind.0 e.p.entries) (extracted_in g x.0) (extracted_terms_in g ys)))
    (products (λ x y. 1) (beside e.kind.0 e.p.entries) (extracted_terms_in g xs) (extracted_terms_in g ys))

pub closed_row_parts : (g : GroveContent) (x : OpenKey × ℕ) (xs : List (OpenKey × ℕ)) → closed_row g (x ∷ xs) ≡ closed_one g x ++ closed_row g xs
closed_row_parts g x xs =
    ap (rekeyed closing) (filter-append (λ (e : Opened × ℕ). closes g.pool.types e.0) ((opened_in g x.0, x.1) ∷ []) (opened_terms_in g xs))
    ∙ rekeyed-append closing (filter (λ (e : Opened × ℕ). closes g.pool.types e.0) ((opened_in g x.0, x.1) ∷ [])) (filter (λ (e : Opened × ℕ). closes g.pool.types e.0) (opened_terms_in g xs))

-- the shift at a place
abbrev pub shift_at : List Multi → ℕ → Multi
shift_at ss i = get_or ss i (record { entries = [] })

pub shift_is : (ss : List Multi) (i : ℕ) → i < length ss → shift_at ss i ≡ get_or ss i (shift_at ss i)
shift_is ss i lt = get_or_default ss i (record { entries = [] }) (shift_at ss i) lt

-- all shifts in a grove that has grown
module _ (g h : GroveContent) (is : IsGrove g) (a : IsGrownGrove g h) (e : EdgeStep) (xs : List (ExtractKey × ℕ)) (ys : List (OpenKey × ℕ)) (i : AreExtractLines g xs) (j : AreOpenLines g ys) where
  pub shift_fits_grown : (ss : List Multi) → AllByRecursion (λ s. AreOutsideFit g e s.entries xs ys) ss → AllByRecursion (λ s. AreOutsideFit h e s.entries xs ys) ss
  shift_fits_grown [] fits = tt
  shift_fits_grown (s ∷ ss) fits = (outside_all_fits_grown g h is a e s.entries xs ys i j fits.0, shift_fits_grown ss fits.1)

  pub outside_shifts_grown : (ss : List Multi) → outside_shifts h e xs ys ss ≡ outside_shifts g e xs ys ss
  outside_shifts_grown ss =
      ap (λ (ty : Types). kept_terms ty e.most (flat_map (λ s. products (outside_factor s) (outside s e.kind.0 e.p.entries) (extracted_terms_in h xs) (opened_terms_in h ys)) (map (λ m. m.entries) ss))) a.pool.types
      ∙ ap (λ (zs : List (Extracted × ℕ)). kept_terms g.pool.types e.most (flat_map (λ s. products (outside_factor s) (outside s e.kind.0 e.p.entries) zs (opened_terms_in h ys)) (map (λ m. m.entries) ss)))
      (extract_terms_grown g h xs is a i)
      ∙ ap (λ (ts : List (Opened × ℕ)). kept_terms g.pool.types e.most (flat_map (λ s. products (outside_factor s) (outside s e.kind.0 e.p.entries) (extracted_terms_in g xs) ts) (map (λ m. m.entries) ss)))
      (open_terms_grown g h ys is a j)

  pub all_products_are : (k : GroveContent) (above : List (OpenKey × ℕ)) (ss : List Multi) (first second last : List (OpenKey × ℕ)) → first ≡ [] →
      opened_terms_in h second ≡ opened_terms_in g first ++ inside_rows g e ys above → opened_terms_in k last ≡ opened_terms_in h second ++ outside_shifts h e xs ys ss →
      opened_terms_in k last
      ≡ kept_terms g.pool.types e.most (touched_products e (map (λ m. m.entries) ss) (opened_terms_in g above) (extracted_terms_in g xs) (opened_terms_in g ys))
  all_products_are k above ss first second last none one two =
      two
      ∙ ap (λ (ts : List (Opened × ℕ)). ts ++ outside_shifts h e xs ys ss) (one ∙ ap (λ (ls : List (OpenKey × ℕ)). opened_terms_in g ls ++ inside_rows g e ys above) none)
      ∙ ap (λ (ts : List (Opened × ℕ)). inside_rows g e ys above ++ ts) (outside_shifts_grown ss)
      ∙ sym (kept_terms-append g.pool.types e.most
      (products inside_factor (inside e.kind.0 e.p.entries) (opened_terms_in g above) (opened_terms_in g ys))
      (flat_map (λ s. products (outside_factor s) (outside s e.kind.0 e.p.entries) (extracted_terms_in g xs) (opened_terms_in g ys)) (map (λ m. m.entries) ss)))

-- the parts of a decoration
abbrev pub seed_row : GroveContent → ℤ → List ℕ → List Multi → List (Opened × ℕ)
seed_row g most n xs = kept_terms g.pool.types most (map (seed n) (map (λ a. a.entries) xs))

pub seed_row_parts : (g : GroveContent) (most : ℤ) (n : List ℕ) (a : Multi) (xs : List Multi) →
    seed_row g most n (a ∷ xs) ≡ kept_terms g.pool.types most (seed n a.entries ∷ []) ++ seed_row g most n xs
seed_row_parts g most n a xs = kept_terms-append g.pool.types most (seed n a.entries ∷ []) (map (seed n) (map (λ a. a.entries) xs))
