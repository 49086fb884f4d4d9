-- All symbols of the values of a solution are of one kind, where those of quotients and of the
-- values that are held are.
use Rattle.std.proofs.Common.{◌≡◌, ℕ, pos, neg_ℤ, true, false, cond, List, [], ◌∷◌, sym, subst, Option, Some, None, refl}
use Rattle.std.specs.List.{AllByRecursion}
use Rattle.ordered_lists.specs.Members.{IsIn}
use Rattle.ordered_lists.proofs.Members.{in_map}
use Rattle.degree_numbers.specs.declared.types.Types.{Types}
use Rattle.degree_numbers.proofs.TypeBounds.{all_weaker}
use Rattle.plain_trees.specs.Plain.{Plain}
use Rattle.plain_trees.specs.Degree.{HasTypes, is_empty_tree}
use Rattle.plain_trees.specs.Coproducts.{Extracted, extraction_terms}
use Rattle.symbol_polys.specs.Symbols.{PlainSymbol}
use Rattle.symbol_polys.specs.Polynomials.{PlainTerm}
use Rattle.symbol_polys.specs.Products.{products}
use Rattle.tree_cuttings.proofs.Positive.{all_append}
use Rattle.cutting_sizes.proofs.TypesKept.{extraction_types}
use Rattle.antipode_laws.specs.Weighed.{Weighed, unit, forest_terms, negated, negated_sum}
use Rattle.antipode_laws.specs.Antipode.{other_terms, from_smaller, value_at, IsSolution}
use Rattle.antipode_laws.proofs.BySize.{by_size}
use Rattle.antipode_laws.proofs.OtherTerms.{IsPart, from_other, parts_of_term, all_members}
use Rattle.antipode_laws.proofs.TreeSymbols.{AreOver, over-products, over-times_all}

quotient_typed : (ty : Types) (t : Plain) (x : Extracted × ℕ) → HasTypes ty t → IsIn x (other_terms ty t) → HasTypes ty x.0.1
quotient_typed ty t x typed h = (extraction_types ty t x.0 typed (in_map (λ (y : Extracted × ℕ). y.0) x (extraction_terms ty t) (from_other ty t x h).0)).1

module _ (P : PlainSymbol → Type 0) (ty : Types) (of_quotient : Plain → List PlainTerm) (a : Plain → Weighed) where
  abbrev pub Over : Plain → Type 0
  Over f = AreOver P (a f).terms

  record IsOverTerm (x : Extracted × ℕ) : Type 0 where
    forest : AllByRecursion Over x.0.0
    quotient : AreOver P (of_quotient x.0.1)

  pub over-forest : (fs : List Plain) → AllByRecursion Over fs → AreOver P (forest_terms a fs)
  over-forest [] h = (tt, tt)
  over-forest (f ∷ fs) h = over-products P (a f).terms (forest_terms a fs) h.0 (over-forest fs h.1)

  over-sum : (xs : List (Extracted × ℕ)) → AllByRecursion IsOverTerm xs → AreOver P (negated_sum of_quotient a xs)
  over-sum [] h = tt
  over-sum (x ∷ xs) h =
      all_append (λ (v : PlainTerm). AllByRecursion P v.symbols) (negated of_quotient a x) (negated_sum of_quotient a xs)
      (over-times_all P (neg_ℤ (pos x.1)) (products (forest_terms a x.0.0) (of_quotient x.0.1))
      (over-products P (forest_terms a x.0.0) (of_quotient x.0.1) (over-forest x.0.0 h.0.forest) h.0.quotient)) (over-sum xs h.1)

  over-value : (h : Option Weighed) (t : Plain) → ((w : Weighed) → h ≡ Some w → AreOver P w.terms) →
      AllByRecursion IsOverTerm (other_terms ty t) → AreOver P (value_at ty of_quotient h a t).terms
  over-value (Some w) t given terms = given w refl
  over-value None t given terms =
      elim (is_empty_tree t) as (λ b. AreOver P (cond b unit (from_smaller ty of_quotient a t)).terms) [ true ↦ (tt, tt) | false ↦ over-sum (other_terms ty t) terms ]

  pub over_solution : ((q : Plain) → HasTypes ty q → AreOver P (of_quotient q)) →
      (held : Plain → Option Weighed) →
      ((t : Plain) (w : Weighed) → held t ≡ Some w → AreOver P w.terms) →
      IsSolution ty of_quotient held a → (t : Plain) → HasTypes ty t → AreOver P (a t).terms
  over_solution quotients held given solves =
      by_size (λ t. HasTypes ty t → Over t)
      (λ t below typed.
      subst (λ (w : Weighed). AreOver P w.terms) (sym (solves t typed))
      (over-value (held t) t (given t)
      (all_members IsOverTerm (other_terms ty t)
      (λ x i. record {
        forest = all_weaker (IsPart ty t) Over x.0.0 (λ f p. below f p.smaller p.typed) (parts_of_term ty t x typed i);
        quotient = quotients x.0.1 (quotient_typed ty t x typed i);
      }))))
