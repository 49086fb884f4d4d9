-- Products over an edge that is raised: the parts are raised, and tested, before the products.
use Rattle.std.proofs.Common.{◌≡◌, ℕ, ◌+◌, ◌*◌, ◌<◌, ◌≤◌, Bool, true, false, cond, List, [], ◌∷◌, ◌++◌, map, length, append-nil, refl, sym, ap, ◌∙◌, arith, subst}
use Rattle.std.specs.List.{AllByRecursion}
use Rattle.exact_sums.specs.Saturating.{saturated}
use Rattle.exact_sums.specs.Keyed.{rekeyed, scaled, products, products_with, saturated_terms}
use Rattle.exact_sums.proofs.SaturatingLaws.{saturated_mul_right}
use Rattle.degree_numbers.specs.declared.types.Types.{Types}
use Rattle.degree_numbers.specs.Multi.{plus_of}
use Rattle.plain_trees.specs.Coproducts.{Extracted}
use Rattle.cutting_tables.specs.Keys.{Opened, outside, outside_factor}
use Rattle.pooled_cuttings.specs.declared.keys.OpenKey.{OpenKey}
use Rattle.pooled_cuttings.specs.declared.keys.ExtractKey.{ExtractKey}
use Rattle.pooled_cuttings.specs.declared.steps.EdgeStep.{EdgeStep}
use Rattle.pooled_cuttings.specs.Groves.{GroveContent, IsGrove, IsGrownGrove}
use Rattle.pooled_cuttings.specs.Lines.{opened_in, extracted_in, opened_terms_in, extracted_terms_in, AreOpenLines, AreExtractLines}
use Rattle.pooled_cuttings.specs.Products.{is_low, low_terms, kept_terms, over, raised_open, raised_term, IsOutsideFit, IsRaisedFit, IsOverFit, AreOutsideFit, AreOverFit}
use Rattle.pooled_cuttings.proofs.EdgeSteps.{all_meant}
use Rattle.pooled_cuttings.proofs.Loops.{outside_rows, over_rows}
use Rattle.pooled_cuttings.proofs.Means.{pair_of, extracted_grown, extract_terms_grown}
use Rattle.pooled_cuttings.proofs.ProductRows.{saturated_terms-append, kept_terms-append}

raised_value : (c f d : ℕ) → saturated (c * (1 * saturated (f * d))) ≡ saturated (c * (f * d))
raised_value c f d = ap (λ (n : ℕ). saturated (c * n)) (omega arith) ∙ saturated_mul_right c (f * d)

module _ (ty : Types) (e : EdgeStep) (s : List ℕ) where
  abbrev p : List ℕ
  p = plus_of e.p.entries s

  module _ (c : ℕ) (x : Extracted) where
    abbrev before : List (Opened × ℕ) → List (Opened × ℕ)
    before ts = saturated_terms (scaled c (products_with (λ x y. 1) (over e.kind.0 p) x (saturated_terms ts)))

    abbrev after : List (Opened × ℕ) → List (Opened × ℕ)
    after ts = scaled c (products_with (outside_factor s) (outside s e.kind.0 e.p.entries) x ts)

    one_more : (b : Bool) (t : Opened × ℕ) (us vs : List (Opened × ℕ)) → before us ≡ saturated_terms vs →
        before (cond b (raised_term s t ∷ us) us)
        ≡ saturated_terms (cond b (pair_of (outside s e.kind.0 e.p.entries x t.0) (c * (outside_factor s x t.0 * t.1)) ∷ vs) vs)
    one_more true t us vs same =
        ap (λ (n : ℕ). pair_of (outside s e.kind.0 e.p.entries x t.0) n ∷ before us) (raised_value c (outside_factor s x t.0) t.1)
        ∙ ap (λ (ts : List (Opened × ℕ)). pair_of (outside s e.kind.0 e.p.entries x t.0) (saturated (c * (outside_factor s x t.0 * t.1))) ∷ ts) same
    one_more false t us vs same = same

    row_raised : (ts : List (Opened × ℕ)) → before (low_terms ty e.most (map (raised_term s) ts)) ≡ kept_terms ty e.most (after ts)
    row_raised [] = refl
    row_raised (t ∷ ts) =
        one_more (is_low ty e.most (raised_open s t.0).part) t (low_terms ty e.most (map (raised_term s) ts)) (low_terms ty e.most (after ts)) (row_raised ts)

  rows_raised : (xs : List (Extracted × ℕ)) (ts : List (Opened × ℕ)) →
      saturated_terms (products (λ x y. 1) (over e.kind.0 p) xs (kept_terms ty e.most (map (raised_term s) ts)))
      ≡ kept_terms ty e.most (products (outside_factor s) (outside s e.kind.0 e.p.entries) xs ts)
  rows_raised [] ts = refl
  rows_raised (x ∷ xs) ts =
      let low = kept_terms ty e.most (map (raised_term s) ts) in
      let rest = products (λ x y. 1) (over e.kind.0 p) xs low in
      saturated_terms-append (scaled x.1 (products_with (λ x y. 1) (over e.kind.0 p) x.0 low)) rest
      ∙ ap (λ (us : List (Opened × ℕ)). us ++ saturated_terms rest) (row_raised x.1 x.0 ts)
      ∙ ap (λ (us : List (Opened × ℕ)). kept_terms ty e.most (after x.1 x.0 ts) ++ us) (rows_raised xs ts)
      ∙ sym (kept_terms-append ty e.most (after x.1 x.0 ts) (products (outside_factor s) (outside s e.kind.0 e.p.entries) xs ts))

  -- what is raised is small
  kept_hold : (Q : Opened → Type 0) (b : Bool) (t : Opened × ℕ) (us : List (Opened × ℕ)) → (b ≡ true → Q t.0) → AllByRecursion (λ u. Q u.0) (saturated_terms us) →
      AllByRecursion (λ u. Q u.0) (saturated_terms (cond b (t ∷ us) us))
  kept_hold Q true t us h a = (h refl, a)
  kept_hold Q false t us h a = a

  row_fits : (g : GroveContent) (x : Extracted) (ys : List (OpenKey × ℕ)) → AllByRecursion (λ y. IsOutsideFit ty e s x (opened_in g y.0)) ys →
      AllByRecursion (λ u. IsOverFit ty e.kind.0 p x u.0) (kept_terms ty e.most (map (raised_term s) (opened_terms_in g ys)))
  row_fits g x [] fits = tt
  row_fits g x (y ∷ ys) fits =
      kept_hold (IsOverFit ty e.kind.0 p x) (is_low ty e.most (raised_open s (opened_in g y.0)).part) (raised_term s (opened_in g y.0, y.1))
      (low_terms ty e.most (map (raised_term s) (opened_terms_in g ys))) (λ low. (fits.0 low).quotient) (row_fits g x ys fits.1)

  pub parts_fit : (g : GroveContent) (x : Extracted) (ys : List (OpenKey × ℕ)) → AllByRecursion (λ y. IsOutsideFit ty e s x (opened_in g y.0)) ys →
      AllByRecursion (λ y. IsRaisedFit ty e s (opened_in g y.0)) ys
  parts_fit g x [] fits = tt
  parts_fit g x (y ∷ ys) fits = (λ low. (fits.0 low).part, parts_fit g x ys fits.1)

pub first_fits : (g : GroveContent) (e : EdgeStep) (s : List ℕ) (xs : List (ExtractKey × ℕ)) (ys : List (OpenKey × ℕ)) → 1 ≤ length xs → AreOutsideFit g e s xs ys →
    AllByRecursion (λ y. IsRaisedFit g.pool.types e s (opened_in g y.0)) ys
first_fits g e s [] ys some fits = absurd (omega (arith, some))
first_fits g e s (x ∷ xs) ys some fits = parts_fit g.pool.types e s g (extracted_in g x.0) ys fits.0

pub nothing_outside : (g : GroveContent) (e : EdgeStep) (s : List ℕ) (xs : List (ExtractKey × ℕ)) (ys : List (OpenKey × ℕ)) (ts : List (Opened × ℕ)) → length xs ≡ 0 →
    ts ≡ ts ++ outside_rows g e s ys xs
nothing_outside g e s [] ys ts none = sym (append-nil ts)
nothing_outside g e s (x ∷ xs) ys ts none = absurd (omega (arith, none))

-- the products, in a grove that has grown by the raised parts
module _ (g h : GroveContent) (is : IsGrove g) (a : IsGrownGrove g h) (e : EdgeStep) (s q : List ℕ) (same : q ≡ plus_of e.p.entries s) (ys raised : List (OpenKey × ℕ))
    (made : opened_terms_in h raised ≡ kept_terms g.pool.types e.most (map (raised_term s) (opened_terms_in g ys))) where
  pub over_fits : (xs : List (ExtractKey × ℕ)) → AreExtractLines g xs → AreOutsideFit g e s xs ys → AreOverFit h e.kind.0 q xs raised
  over_fits [] i fits = tt
  over_fits (x ∷ xs) i fits = (
    all_meant (opened_in h) (IsOverFit h.pool.types e.kind.0 q (extracted_in h x.0)) raised
        (subst (λ (ty : Types). AllByRecursion (λ u. IsOverFit ty e.kind.0 q (extracted_in h x.0) u.0) (opened_terms_in h raised)) (sym a.pool.types)
        (subst (λ (z : Extracted). AllByRecursion (λ u. IsOverFit g.pool.types e.kind.0 q z u.0) (opened_terms_in h raised)) (sym (extracted_grown g h x.0 is a i.0.0))
        (subst (λ (m : List ℕ). AllByRecursion (λ u. IsOverFit g.pool.types e.kind.0 m (extracted_in g x.0) u.0) (opened_terms_in h raised)) (sym same)
        (subst (AllByRecursion (λ u. IsOverFit g.pool.types e.kind.0 (plus_of e.p.entries s) (extracted_in g x.0) u.0)) (sym made)
        (row_fits g.pool.types e s g (extracted_in g x.0) ys fits.0))))),
    over_fits xs i.1 fits.1,
  )

  pub over_rows_raised : (xs : List (ExtractKey × ℕ)) → AreExtractLines g xs → over_rows h e.kind.0 q raised xs ≡ outside_rows g e s ys xs
  over_rows_raised xs i =
      ap (λ (us : List (Extracted × ℕ)). saturated_terms (products (λ x y. 1) (over e.kind.0 q) us (opened_terms_in h raised))) (extract_terms_grown g h xs is a i)
      ∙ ap (λ (us : List (Opened × ℕ)). saturated_terms (products (λ x y. 1) (over e.kind.0 q) (extracted_terms_in g xs) us)) made
      ∙ ap (λ (m : List ℕ). saturated_terms (products (λ x y. 1) (over e.kind.0 m) (extracted_terms_in g xs) (kept_terms g.pool.types e.most (map (raised_term s) (opened_terms_in g ys))))) same
      ∙ rows_raised g.pool.types e s (extracted_terms_in g xs) (opened_terms_in g ys)
