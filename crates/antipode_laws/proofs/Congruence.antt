-- The right side of the recursion depends on the values of the trees in the forests alone.
use Rattle.std.proofs.Common.{◌≡◌, ℕ, pos, neg_ℤ, List, [], ◌∷◌, ◌++◌, map, if◌then◌else◌, refl, ap, ◌∙◌, Option, Some, None}
use Rattle.std.specs.List.{AllByRecursion}
use Rattle.exact_sums.specs.Saturating.{overflow, saturating_sum, saturating_product, saturating_times}
use Rattle.degree_numbers.specs.declared.types.Types.{Types}
use Rattle.degree_numbers.proofs.TypeBounds.{all_weaker}
use Rattle.plain_trees.specs.Plain.{Plain}
use Rattle.plain_trees.specs.Degree.{HasTypes, is_empty_tree}
use Rattle.plain_trees.specs.Coproducts.{Extracted, extraction_terms}
use Rattle.symbol_polys.specs.Polynomials.{PlainTerm, times_all}
use Rattle.symbol_polys.specs.Products.{products}
use Rattle.cutting_sizes.specs.Bounds.{IsSmaller}
use Rattle.antipode_laws.specs.Weighed.{Weighed, unit, has_terms, forest_terms, forest_mass, negated, negated_sum, term_mass}
use Rattle.antipode_laws.specs.Antipode.{other_terms, are_in_range, from_smaller, value_at}
use Rattle.antipode_laws.proofs.OtherTerms.{IsPart, parts_of_others}

module _ (a b : Plain → Weighed) where
  abbrev Agree : Plain → Type 0
  Agree f = a f ≡ b f

  abbrev AgreeOn : Extracted × ℕ → Type 0
  AgreeOn x = AllByRecursion Agree x.0.0

  pub same_forest_terms : (fs : List Plain) → AllByRecursion Agree fs → forest_terms a fs ≡ forest_terms b fs
  same_forest_terms [] h = refl
  same_forest_terms (f ∷ fs) h = ap (λ (w : Weighed). products w.terms (forest_terms a fs)) h.0 ∙ ap (products (b f).terms) (same_forest_terms fs h.1)

  same_masses : (fs : List Plain) → AllByRecursion Agree fs → map (λ f. (a f).mass) fs ≡ map (λ f. (b f).mass) fs
  same_masses [] h = refl
  same_masses (f ∷ fs) h = ap (λ (w : Weighed). w.mass ∷ map (λ g. (a g).mass) fs) h.0 ∙ ap (λ (ms : List ℕ). (b f).mass ∷ ms) (same_masses fs h.1)

  pub same_forest_mass : (fs : List Plain) → AllByRecursion Agree fs → forest_mass a fs ≡ forest_mass b fs
  same_forest_mass fs h = ap saturating_product (same_masses fs h)

  module _ (of_quotient : Plain → List PlainTerm) where
    same_sum : (xs : List (Extracted × ℕ)) → AllByRecursion AgreeOn xs → negated_sum of_quotient a xs ≡ negated_sum of_quotient b xs
    same_sum [] h = refl
    same_sum (x ∷ xs) h =
        ap (λ (ts : List PlainTerm). times_all (neg_ℤ (pos x.1)) (products ts (of_quotient x.0.1)) ++ negated_sum of_quotient a xs) (same_forest_terms x.0.0 h.0)
        ∙ ap (λ (ts : List PlainTerm). negated of_quotient b x ++ ts) (same_sum xs h.1)

    same_term_mass : (x : Extracted × ℕ) → AgreeOn x → term_mass of_quotient a x ≡ term_mass of_quotient b x
    same_term_mass x h = ap (λ (m : ℕ). if has_terms (of_quotient x.0.1) then saturating_times x.1 m else 0) (same_forest_mass x.0.0 h)

    same_term_masses : (xs : List (Extracted × ℕ)) → AllByRecursion AgreeOn xs → map (term_mass of_quotient a) xs ≡ map (term_mass of_quotient b) xs
    same_term_masses [] h = refl
    same_term_masses (x ∷ xs) h = ap (λ (m : ℕ). m ∷ map (term_mass of_quotient a) xs) (same_term_mass x h.0) ∙ ap (λ (ms : List ℕ). term_mass of_quotient b x ∷ ms) (same_term_masses xs h.1)

    abbrev weighed : List PlainTerm → ℕ → Weighed
    weighed ts m = record { terms = ts; mass = m }

    pub same_from_smaller : (ty : Types) (t : Plain) → AllByRecursion AgreeOn (other_terms ty t) → from_smaller ty of_quotient a t ≡ from_smaller ty of_quotient b t
    same_from_smaller ty t h =
        ap (λ (ts : List PlainTerm). weighed ts (from_smaller ty of_quotient a t).mass) (same_sum (other_terms ty t) h)
        ∙ ap (λ (ms : List ℕ). weighed (negated_sum of_quotient b (other_terms ty t)) (if are_in_range (extraction_terms ty t) then saturating_sum ms else overflow)) (same_term_masses (other_terms ty t) h)

    pub same_value : (ty : Types) (h : Option Weighed) (t : Plain) → HasTypes ty t → ((f : Plain) → HasTypes ty f → IsSmaller f t → a f ≡ b f) → value_at ty of_quotient h a t ≡ value_at ty of_quotient h b t
    same_value ty (Some w) t typed below = refl
    same_value ty None t typed below =
        ap (λ (w : Weighed). if is_empty_tree t then unit else w)
        (same_from_smaller ty t
        (all_weaker (λ (x : Extracted × ℕ). AllByRecursion (IsPart ty t) x.0.0) AgreeOn (other_terms ty t)
        (λ x parts. all_weaker (IsPart ty t) Agree x.0.0 (λ f p. below f p.typed p.smaller) parts) (parts_of_others ty t typed)))
