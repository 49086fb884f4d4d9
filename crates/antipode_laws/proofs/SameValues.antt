-- The recursion keeps values that are the same so.
use Rattle.std.proofs.Common.{◌≡◌, ℕ, ◌⊎◌, inl, inr, pos, neg_ℤ, ℤ, ◌+ℤ◌, ◌*ℤ◌, true, false, cond, List, [], ◌∷◌, map, if◌then◌else◌, refl, sym, ap, ◌∙◌, subst, Option, Some, None}
use Rattle.std.specs.List.{AllByRecursion}
use Rattle.exact_sums.specs.Saturating.{overflow, saturating_sum, saturating_product, saturating_times}
use Rattle.degree_numbers.specs.declared.types.Types.{Types}
use Rattle.degree_numbers.proofs.TypeBounds.{all_weaker}
use Rattle.plain_trees.specs.Plain.{Plain}
use Rattle.plain_trees.specs.Degree.{HasTypes, is_empty_tree}
use Rattle.plain_trees.specs.Coproducts.{Extracted, extraction_terms}
use Rattle.symbol_polys.specs.Polynomials.{PlainTerm, coefficient_of, HaveSameCoefficients}
use Rattle.symbol_polys.specs.Products.{products}
use Rattle.symbol_polys.proofs.AddLaws.{coefficient_of-append}
use Rattle.symbol_polys.proofs.PolyLaws.{coefficient_of-times_all}
use Rattle.symbol_polys.proofs.CongruenceLaws.{products_same}
use Rattle.antipode_laws.specs.Weighed.{Weighed, unit, has_terms, forest_terms, negated, negated_sum, term_mass}
use Rattle.antipode_laws.specs.Antipode.{other_terms, are_in_range, from_smaller, value_at, IsSolution}
use Rattle.antipode_laws.specs.Sameness.{AreSameValues, IsSameHeld, IsHeldValue}
use Rattle.antipode_laws.proofs.BySize.{by_size}
use Rattle.antipode_laws.proofs.OtherTerms.{IsPart, parts_of_others}

pub same_back : (w u : Weighed) → AreSameValues w u → AreSameValues u w
same_back w u h = record { coefficients = λ m. sym (h.coefficients m); mass = sym h.mass }

pub same_self : (w : Weighed) → AreSameValues w w
same_self w = record { coefficients = λ m. refl; mass = refl }

pub same_both : (w u v : Weighed) → AreSameValues w u → AreSameValues u v → AreSameValues w v
same_both w u v h k = record { coefficients = λ m. h.coefficients m ∙ k.coefficients m; mass = h.mass ∙ k.mass }

module _ (a b : Plain → Weighed) where
  abbrev Agree : Plain → Type 0
  Agree f = AreSameValues (a f) (b f)

  abbrev AgreeOn : Extracted × ℕ → Type 0
  AgreeOn x = AllByRecursion Agree x.0.0

  same_forests : (fs : List Plain) → AllByRecursion Agree fs → HaveSameCoefficients (forest_terms a fs) (forest_terms b fs)
  same_forests [] h = λ m. refl
  same_forests (f ∷ fs) h = products_same (a f).terms (b f).terms (forest_terms a fs) (forest_terms b fs) h.0.coefficients (same_forests fs h.1)

  same_masses : (fs : List Plain) → AllByRecursion Agree fs → map (λ f. (a f).mass) fs ≡ map (λ f. (b f).mass) fs
  same_masses [] h = refl
  same_masses (f ∷ fs) h = ap (λ (n : ℕ). n ∷ map (λ g. (a g).mass) fs) h.0.mass ∙ ap (λ (ms : List ℕ). (b f).mass ∷ ms) (same_masses fs h.1)

  module _ (of_quotient : Plain → List PlainTerm) where
    same_negated : (x : Extracted × ℕ) → AgreeOn x → HaveSameCoefficients (negated of_quotient a x) (negated of_quotient b x)
    same_negated x h = λ m.
        coefficient_of-times_all (neg_ℤ (pos x.1)) m (products (forest_terms a x.0.0) (of_quotient x.0.1))
        ∙ ap (λ (z : ℤ). neg_ℤ (pos x.1) *ℤ z) (products_same (forest_terms a x.0.0) (forest_terms b x.0.0) (of_quotient x.0.1) (of_quotient x.0.1) (same_forests x.0.0 h) (λ n. refl) m)
        ∙ sym (coefficient_of-times_all (neg_ℤ (pos x.1)) m (products (forest_terms b x.0.0) (of_quotient x.0.1)))

    same_sums : (xs : List (Extracted × ℕ)) → AllByRecursion AgreeOn xs → HaveSameCoefficients (negated_sum of_quotient a xs) (negated_sum of_quotient b xs)
    same_sums [] h = λ m. refl
    same_sums (x ∷ xs) h = λ m.
        coefficient_of-append m (negated of_quotient a x) (negated_sum of_quotient a xs)
        ∙ ap (λ (z : ℤ). z +ℤ coefficient_of m (negated_sum of_quotient a xs)) (same_negated x h.0 m)
        ∙ ap (λ (z : ℤ). coefficient_of m (negated of_quotient b x) +ℤ z) (same_sums xs h.1 m)
        ∙ sym (coefficient_of-append m (negated of_quotient b x) (negated_sum of_quotient b xs))

    same_term_masses : (xs : List (Extracted × ℕ)) → AllByRecursion AgreeOn xs → map (term_mass of_quotient a) xs ≡ map (term_mass of_quotient b) xs
    same_term_masses [] h = refl
    same_term_masses (x ∷ xs) h =
        ap (λ (ms : List ℕ). (if has_terms (of_quotient x.0.1) then saturating_times x.1 (saturating_product ms) else 0) ∷ map (term_mass of_quotient a) xs) (same_masses x.0.0 h.0)
        ∙ ap (λ (ms : List ℕ). term_mass of_quotient b x ∷ ms) (same_term_masses xs h.1)

    same_from_smaller : (ty : Types) (t : Plain) → AllByRecursion AgreeOn (other_terms ty t) → AreSameValues (from_smaller ty of_quotient a t) (from_smaller ty of_quotient b t)
    same_from_smaller ty t h =
        record {
          coefficients = same_sums (other_terms ty t) h;
          mass = ap (λ (ms : List ℕ). if are_in_range (extraction_terms ty t) then saturating_sum ms else overflow) (same_term_masses (other_terms ty t) h);
        }

    same_at_none : (ty : Types) (t : Plain) → AllByRecursion AgreeOn (other_terms ty t) → AreSameValues (value_at ty of_quotient None a t) (value_at ty of_quotient None b t)
    same_at_none ty t h =
        elim (is_empty_tree t) as (λ e. AreSameValues (cond e unit (from_smaller ty of_quotient a t)) (cond e unit (from_smaller ty of_quotient b t))) [ true ↦ same_self unit | false ↦ same_from_smaller ty t h ]

    same_at : (ty : Types) (h k : Option Weighed) (t : Plain) → IsSameHeld h k → AllByRecursion AgreeOn (other_terms ty t) → AreSameValues (value_at ty of_quotient h a t) (value_at ty of_quotient k b t)
    same_at ty None None t s parts = same_at_none ty t parts
    same_at ty None (Some u) t s parts = absurd s
    same_at ty (Some w) None t s parts = absurd s
    same_at ty (Some w) (Some u) t s parts = s

    held_at : (ty : Types) (k : Option Weighed) (t : Plain) → IsHeldValue k (a t) → AreSameValues (a t) (value_at ty of_quotient k b t)
    held_at ty None t h = absurd h
    held_at ty (Some u) t h = same_back u (a t) h

    at_tree : (ty : Types) (h k : Option Weighed) (t : Plain) → a t ≡ value_at ty of_quotient h a t → b t ≡ value_at ty of_quotient k b t → IsSameHeld h k ⊎ IsHeldValue k (a t) → AllByRecursion AgreeOn (other_terms ty t) → Agree t
    at_tree ty h k t ea eb (inl s) parts =
        subst (λ (w : Weighed). AreSameValues w (b t)) (sym ea) (subst (λ (u : Weighed). AreSameValues (value_at ty of_quotient h a t) u) (sym eb) (same_at ty h k t s parts))
    at_tree ty h k t ea eb (inr s) parts = subst (λ (u : Weighed). AreSameValues (a t) u) (sym eb) (held_at ty k t s)

    pub same_solutions : (ty : Types) (held more : Plain → Option Weighed) → IsSolution ty of_quotient held a → IsSolution ty of_quotient more b →
        ((t : Plain) → HasTypes ty t → IsSameHeld (held t) (more t) ⊎ IsHeldValue (more t) (a t)) → (t : Plain) → HasTypes ty t → AreSameValues (a t) (b t)
    same_solutions ty held more solves also extends =
        by_size (λ t. HasTypes ty t → Agree t)
        (λ t below typed.
        at_tree ty (held t) (more t) t (solves t typed) (also t typed) (extends t typed)
        (all_weaker (λ (x : Extracted × ℕ). AllByRecursion (IsPart ty t) x.0.0) AgreeOn (other_terms ty t)
        (λ x parts. all_weaker (IsPart ty t) Agree x.0.0 (λ f p. below f p.smaller p.typed) parts) (parts_of_others ty t typed)))
