-- Sums of products with their mass. The value of a tree is such a sum; that of a forest is the
-- product of the values of its trees.
--   Weighed == the terms of a sum as they come, not yet joined, and the mass: what the absolute
--       coefficients add up to where nothing cancels, or the overflow
--   one, unit == the number 1 as a list of terms, and with its mass
--   symbol_term s == the sum that is the symbol s
--   has_terms ts == some term is there
--   forest_terms a fs, forest_mass a fs == the product of the values that a gives the trees fs, and
--       of their masses
--   negated of_quotient a x == minus coefficient times value of the forest times value of the
--       quotient, for a term x of a coproduct
--   negated_sum of_quotient a xs == the sum of these
--   term_mass of_quotient a x == coefficient times mass of the forest; 0 where the quotient counts
--       nothing
--   mass_sum of_quotient a xs == the sum of these
use Rattle.std.specs.Prelude.{ℕ, pos, neg_ℤ, Bool, true, false, if◌then◌else◌, List, [], ◌∷◌, map, flat_map}
use Rattle.exact_sums.specs.Saturating.{saturating_times, saturating_sum, saturating_product}
use Rattle.plain_trees.specs.Plain.{Plain}
use Rattle.plain_trees.specs.Coproducts.{Extracted}
use Rattle.symbol_polys.specs.Symbols.{PlainSymbol}
use Rattle.symbol_polys.specs.Polynomials.{PlainTerm, times_all}
use Rattle.symbol_polys.specs.Products.{products}

pub record Weighed : Type 0 where
  pub terms : List PlainTerm
  pub mass : ℕ

abbrev pub one : List PlainTerm
one = record { coefficient = pos 1; symbols = [] } ∷ []

abbrev pub unit : Weighed
unit = record { terms = one; mass = 1 }

abbrev pub symbol_term : PlainSymbol → List PlainTerm
symbol_term s = record { coefficient = pos 1; symbols = s ∷ [] } ∷ []

abbrev pub has_terms : List PlainTerm → Bool
has_terms [] = false
has_terms (t ∷ ts) = true

abbrev pub forest_terms : (Plain → Weighed) → List Plain → List PlainTerm
forest_terms a [] = one
forest_terms a (f ∷ fs) = products (a f).terms (forest_terms a fs)

abbrev pub forest_mass : (Plain → Weighed) → List Plain → ℕ
forest_mass a fs = saturating_product (map (λ f. (a f).mass) fs)

abbrev pub negated : (Plain → List PlainTerm) → (Plain → Weighed) → Extracted × ℕ → List PlainTerm
negated of_quotient a x = times_all (neg_ℤ (pos x.1))
    (products (forest_terms a x.0.0) (of_quotient x.0.1))

abbrev pub negated_sum : (Plain → List PlainTerm) → (Plain → Weighed) → List (Extracted × ℕ) →
    List PlainTerm
negated_sum of_quotient a xs = flat_map (negated of_quotient a) xs

abbrev pub term_mass : (Plain → List PlainTerm) → (Plain → Weighed) → Extracted × ℕ → ℕ
term_mass of_quotient a x = if has_terms (of_quotient x.0.1) then saturating_times x.1
    (forest_mass a x.0.0) else 0

abbrev pub mass_sum : (Plain → List PlainTerm) → (Plain → Weighed) → List (Extracted × ℕ) → ℕ
mass_sum of_quotient a xs = saturating_sum (map (term_mass of_quotient a) xs)
