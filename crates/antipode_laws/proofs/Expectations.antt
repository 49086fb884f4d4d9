-- The constants are the expectations of the twisted antipode.
use Rattle.std.proofs.Common.{◌≡◌, ℕ, zero, suc, ◌-◌, ◌%◌, ◌==◌, pos, neg_ℤ, true, false, cond, not, ◌||◌, List, [], ◌∷◌, ◌++◌, length, refl, sym, ap, ◌∙◌, slice_index, None}
use Rattle.std.specs.List.{AllByRecursion, list_any}
use Rattle.degree_numbers.specs.declared.types.Types.{Types}
use Rattle.degree_numbers.proofs.TypeBounds.{all_weaker}
use Rattle.plain_trees.specs.Plain.{Plain, bare, graft}
use Rattle.plain_trees.specs.Degree.{HasTypes, is_empty_tree}
use Rattle.plain_trees.specs.Coproducts.{Extracted}
use Rattle.symbol_polys.specs.Symbols.{tree, expectation}
use Rattle.symbol_polys.specs.Polynomials.{PlainTerm, times_all}
use Rattle.symbol_polys.specs.Products.{products}
use Rattle.symbol_polys.proofs.Entries.{all_zero}
use Rattle.gaussian_pairings.specs.Vanishing.{some_below, has_odd_direction, entry_in, vanishes}
use Rattle.antipode_laws.specs.Weighed.{Weighed, one, unit, symbol_term, forest_terms, negated, negated_sum}
use Rattle.antipode_laws.specs.Antipode.{other_terms, value_at, from_smaller, tree_terms, nothing, IsAntipode}
use Rattle.antipode_laws.specs.Constants.{expected, IsConstants, expectation_terms}
use Rattle.antipode_laws.proofs.BySize.{by_size}
use Rattle.antipode_laws.proofs.OtherTerms.{IsPart, parts_of_others}
use Rattle.antipode_laws.proofs.TreeSymbols.{IsTree, AreOverTrees, expected-append, expected-times_all, expected-products}
use Rattle.antipode_laws.proofs.OverSymbols.{Over, over-forest, over_solution}

-- the empty tree does not vanish
none_below : (n : ℕ) → some_below n (λ g. false) ≡ false
none_below zero = refl
none_below (suc n) = ap (λ b. b || false) (none_below n)

zero_entry : (n : List ℕ) (i : ℕ) → AllByRecursion (λ x. x ≡ 0) n → slice_index n i ≡ 0
zero_entry [] i h = refl
zero_entry (x ∷ n) zero h = h.0
zero_entry (x ∷ n) (suc i) h = zero_entry n i h.1

no_odd_direction : (n : List ℕ) (ds : List ℕ) → AllByRecursion (λ x. x ≡ 0) n → list_any (λ i. entry_in i n % 2 == 1) ds ≡ false
no_odd_direction n [] h = refl
no_odd_direction n (d ∷ ds) h = ap (λ (k : ℕ). (k % 2 == 1) || list_any (λ i. entry_in i n % 2 == 1) ds) (zero_entry n (d - 1) h) ∙ no_odd_direction n ds h

pub empty_stays : (ty : Types) (q : Plain) → is_empty_tree q ≡ true → vanishes ty q ≡ false
empty_stays ty (bare n) h =
    ap (λ b. not b || ((some_below (length ty.groups) (λ g. false) || has_odd_direction ty (bare n)) || false)) h
    ∙ ap (λ b. (b || has_odd_direction ty (bare n)) || false) (none_below (length ty.groups))
    ∙ ap (λ b. b || false) (no_odd_direction n ty.reflect (all_zero n h))
empty_stays ty (graft k p c t) h = absurd cc

expected_quotient : (ty : Types) (q : Plain) → expectation_terms ty (tree_terms q) ≡ expected ty q
expected_quotient ty q =
    (elim (is_empty_tree q) as (λ b. is_empty_tree q ≡ b → expectation_terms ty (cond b one (symbol_term (tree q))) ≡ cond (vanishes ty q) [] (cond b one (symbol_term (expectation q)))) [
      | true ↦ λ e. ap (λ b. cond b [] one) (sym (empty_stays ty q e))
      | false ↦ λ e. elim (vanishes ty q) as (λ b. cond (b || false) [] (symbol_term (expectation q)) ++ [] ≡ cond b [] (symbol_term (expectation q))) [ true ↦ refl | false ↦ refl ]
    ]) refl

over_quotient : (q : Plain) → AreOverTrees (tree_terms q)
over_quotient q = elim (is_empty_tree q) as (λ b. AreOverTrees (cond b one (symbol_term (tree q)))) [ true ↦ (tt, tt) | false ↦ (((q, refl), tt), tt) ]

module _ (ty : Types) (a c : Plain → Weighed) where
  record IsExpected (f : Plain) : Type 0 where
    over : AreOverTrees (a f).terms
    is : expectation_terms ty (a f).terms ≡ (c f).terms

  over-trees : (fs : List Plain) → AllByRecursion IsExpected fs → AreOverTrees (forest_terms a fs)
  over-trees fs h = over-forest IsTree ty tree_terms a fs (all_weaker IsExpected (Over IsTree ty tree_terms a) fs (λ f e. e.over) h)

  expected-forest : (fs : List Plain) → AllByRecursion IsExpected fs → expectation_terms ty (forest_terms a fs) ≡ forest_terms c fs
  expected-forest [] h = refl
  expected-forest (f ∷ fs) h =
      expected-products ty (a f).terms (forest_terms a fs) h.0.over (over-trees fs h.1)
      ∙ ap (λ (ts : List PlainTerm). products ts (expectation_terms ty (forest_terms a fs))) h.0.is
      ∙ ap (products (c f).terms) (expected-forest fs h.1)

  expected-negated : (x : Extracted × ℕ) → AllByRecursion IsExpected x.0.0 → expectation_terms ty (negated tree_terms a x) ≡ negated (expected ty) c x
  expected-negated x h =
      expected-times_all ty (neg_ℤ (pos x.1)) (products (forest_terms a x.0.0) (tree_terms x.0.1))
      ∙ ap (times_all (neg_ℤ (pos x.1)))
      (expected-products ty (forest_terms a x.0.0) (tree_terms x.0.1) (over-trees x.0.0 h) (over_quotient x.0.1)
      ∙ ap (λ (ts : List PlainTerm). products ts (expectation_terms ty (tree_terms x.0.1))) (expected-forest x.0.0 h)
      ∙ ap (products (forest_terms c x.0.0)) (expected_quotient ty x.0.1))

  expected-sum : (xs : List (Extracted × ℕ)) →
      AllByRecursion (λ (x : Extracted × ℕ). AllByRecursion IsExpected x.0.0) xs →
      expectation_terms ty (negated_sum tree_terms a xs) ≡ negated_sum (expected ty) c xs
  expected-sum [] h = refl
  expected-sum (x ∷ xs) h =
      expected-append ty (negated tree_terms a x) (negated_sum tree_terms a xs)
      ∙ ap (λ (ts : List PlainTerm). ts ++ expectation_terms ty (negated_sum tree_terms a xs)) (expected-negated x h.0)
      ∙ ap (λ (ts : List PlainTerm). negated (expected ty) c x ++ ts) (expected-sum xs h.1)

  expected-value : (t : Plain) → AllByRecursion (λ (x : Extracted × ℕ). AllByRecursion IsExpected x.0.0) (other_terms ty t) →
      expectation_terms ty (value_at ty tree_terms None a t).terms ≡ (value_at ty (expected ty) None c t).terms
  expected-value t h =
      elim (is_empty_tree t) as (λ b. expectation_terms ty (cond b unit (from_smaller ty tree_terms a t)).terms ≡ (cond b unit (from_smaller ty (expected ty) c t)).terms) [
        | true ↦ refl
        | false ↦ expected-sum (other_terms ty t) h
      ]

  are_expected : IsAntipode ty a → IsConstants ty nothing c → (t : Plain) → HasTypes ty t → IsExpected t
  are_expected solves also =
      by_size (λ t. HasTypes ty t → IsExpected t)
      (λ t below typed.
      let parts =
      all_weaker (λ (x : Extracted × ℕ). AllByRecursion (IsPart ty t) x.0.0) (λ (x : Extracted × ℕ). AllByRecursion IsExpected x.0.0) (other_terms ty t)
      (λ x h. all_weaker (IsPart ty t) IsExpected x.0.0 (λ f p. below f p.smaller p.typed) h) (parts_of_others ty t typed) in
      record {
        over = over_solution IsTree ty tree_terms a (λ q k. over_quotient q) nothing (λ f w e. absurd cc) solves t typed;
        is = ap (λ (w : Weighed). expectation_terms ty w.terms) (solves t typed) ∙ expected-value t parts ∙ ap (λ (w : Weighed). w.terms) (sym (also t typed));
      })

  pub constants_are : IsAntipode ty a → IsConstants ty nothing c → (t : Plain) → HasTypes ty t → expectation_terms ty (a t).terms ≡ (c t).terms
  constants_are solves also t typed = (are_expected solves also t typed).is
