-- The constant of a tree that vanishes is 0: in each term the quotient vanishes, or a smaller tree.
use Rattle.std.proofs.Common.{◌≡◌, ℕ, ◌*◌, neg_ℤ, pos, inl, inr, Bool, true, false, cond, List, [], ◌∷◌, ◌++◌, map, refl, sym, ap, ◌∙◌, arith, Option}
use Rattle.std.specs.List.{AllByRecursion, list_any}
use Rattle.ordered_lists.specs.Members.{IsIn}
use Rattle.ordered_lists.proofs.Members.{in_map}
use Rattle.exact_sums.specs.Saturating.{overflow, saturated, saturating_times, saturating_sum, product}
use Rattle.exact_sums.proofs.SaturatingLaws.{product_cons}
use Rattle.degree_numbers.specs.declared.types.Types.{Types}
use Rattle.plain_trees.specs.Plain.{Plain}
use Rattle.plain_trees.specs.Degree.{HasTypes, is_empty_tree}
use Rattle.plain_trees.specs.Coproducts.{Extracted, extraction_terms}
use Rattle.symbol_polys.specs.Polynomials.{PlainTerm, times_all}
use Rattle.symbol_polys.specs.Products.{products}
use Rattle.cutting_sizes.specs.Bounds.{IsSmaller}
use Rattle.gaussian_pairings.specs.Vanishing.{vanishes}
use Rattle.antipode_laws.specs.Weighed.{Weighed, unit, has_terms, forest_terms, forest_mass, negated, negated_sum, term_mass, mass_sum}
use Rattle.antipode_laws.specs.Antipode.{other_terms, are_in_range, from_smaller, value_at}
use Rattle.antipode_laws.specs.Constants.{expected, IsConstants}
use Rattle.antipode_laws.proofs.BySize.{by_size}
use Rattle.antipode_laws.proofs.Expectations.{empty_stays}
use Rattle.antipode_laws.proofs.Masses.{saturating_product_is}
use Rattle.antipode_laws.proofs.OtherTerms.{IsPart, from_other, parts_of_term, all_members, member_of}
use Rattle.antipode_laws.proofs.SomeTree.{or_cases}
use Rattle.antipode_laws.proofs.VanishingTrees.{vanishing_tree}
use Rattle.twisted_antipode.specs.Counts.{HasAll, HasAllComponents}
use Rattle.twisted_antipode.specs.Values.{nothing_value}
use Rattle.vanishing_constants.specs.Zeros.{IsZeroIn}

-- products with 0
no_product : (ts : List PlainTerm) → products ts [] ≡ []
no_product [] = refl
no_product (t ∷ ts) = no_product ts

some_vanishing : (p : Plain → Bool) (fs : List Plain) → list_any p fs ≡ true → (f : Plain) × IsIn f fs × (p f ≡ true)
some_vanishing p [] h = absurd cc
some_vanishing p (f ∷ fs) h =
    elim (or_cases (p f) (list_any p fs) h) [
      | inl e ↦ (f, inl refl, e)
      | inr e ↦ (let r = some_vanishing p fs e in (r.0, inr r.1, r.2))
    ]

no_forest_terms : (c : Plain → Weighed) (fs : List Plain) (f : Plain) → IsIn f fs → c f ≡ nothing_value → forest_terms c fs ≡ []
no_forest_terms c [] f i z = absurd i
no_forest_terms c (g ∷ gs) f i z =
    elim i [
      | inl e ↦ ap (λ (w : Weighed). products w.terms (forest_terms c gs)) (ap c e ∙ z)
      | inr r ↦ ap (products (c g).terms) (no_forest_terms c gs f r z) ∙ no_product (c g).terms
    ]

nothing_times : (n : ℕ) → 0 * n ≡ 0
nothing_times n = omega arith

no_product_of : (c : Plain → Weighed) (fs : List Plain) (f : Plain) → IsIn f fs → c f ≡ nothing_value → product (map (λ g. (c g).mass) fs) ≡ 0
no_product_of c [] f i z = absurd i
no_product_of c (g ∷ gs) f i z =
    product_cons (c g).mass (map (λ g. (c g).mass) gs) ∙
    elim i [
      | inl e ↦ ap (λ (w : Weighed). w.mass * product (map (λ g. (c g).mass) gs)) (ap c e ∙ z) ∙ nothing_times (product (map (λ g. (c g).mass) gs))
      | inr r ↦ (let none = no_product_of c gs f r z in rw none (omega arith))
    ]

no_forest_mass : (c : Plain → Weighed) (fs : List Plain) (f : Plain) → IsIn f fs → c f ≡ nothing_value → forest_mass c fs ≡ 0
no_forest_mass c fs f i z = saturating_product_is (map (λ g. (c g).mass) fs) ∙ ap saturated (no_product_of c fs f i z)

-- a term that counts nothing
pub record IsNothing (ty : Types) (c : Plain → Weighed) (x : Extracted × ℕ) : Type 0 where
  pub terms : negated (expected ty) c x ≡ []
  pub mass : term_mass (expected ty) c x ≡ 0

module _ (ty : Types) (c : Plain → Weighed) where
  no_quotient : (x : Extracted × ℕ) → vanishes ty x.0.1 ≡ true → IsNothing ty c x
  no_quotient x v =
      let none : expected ty x.0.1 ≡ [] = rw v refl in
      record {
        terms = ap (λ (ts : List PlainTerm). times_all (neg_ℤ (pos x.1)) (products (forest_terms c x.0.0) ts)) none ∙ ap (times_all (neg_ℤ (pos x.1))) (no_product (forest_terms c x.0.0));
        mass = ap (λ (ts : List PlainTerm). cond (has_terms ts) (saturating_times x.1 (forest_mass c x.0.0)) 0) none;
      }

  no_times : (n : ℕ) → saturating_times n 0 ≡ 0
  no_times n = omega arith

  either_nothing : (b : Bool) → cond {A = ℕ} b 0 0 ≡ 0
  either_nothing true = refl
  either_nothing false = refl

  no_forest : (x : Extracted × ℕ) (f : Plain) → IsIn f x.0.0 → c f ≡ nothing_value → IsNothing ty c x
  no_forest x f i z =
      record {
        terms = ap (λ (ts : List PlainTerm). times_all (neg_ℤ (pos x.1)) (products ts (expected ty x.0.1))) (no_forest_terms c x.0.0 f i z);
        mass =
            ap (λ n. cond (has_terms (expected ty x.0.1)) (saturating_times x.1 n) 0) (no_forest_mass c x.0.0 f i z)
            ∙ ap (λ n. cond (has_terms (expected ty x.0.1)) n 0) (no_times x.1)
            ∙ either_nothing (has_terms (expected ty x.0.1));
      }

  no_terms : (xs : List (Extracted × ℕ)) → AllByRecursion (IsNothing ty c) xs → negated_sum (expected ty) c xs ≡ []
  no_terms [] h = refl
  no_terms (x ∷ xs) h = ap (λ (ts : List PlainTerm). ts ++ negated_sum (expected ty) c xs) h.0.terms ∙ no_terms xs h.1

  no_mass : (xs : List (Extracted × ℕ)) → AllByRecursion (IsNothing ty c) xs → mass_sum (expected ty) c xs ≡ 0
  no_mass [] h = refl
  no_mass (x ∷ xs) h = ap (λ n. saturating_sum (n ∷ map (term_mass (expected ty) c) xs)) h.0.mass ∙ no_mass xs h.1

module _ (ty : Types) (held : Plain → Option Weighed) (c : Plain → Weighed) (ts : List Plain) (solves : IsConstants ty held c) (typed : AllByRecursion (HasTypes ty) ts) (closed : HasAllComponents ty ts)
    (each : AllByRecursion (IsZeroIn ty held) ts) where
  abbrev IsZero : Plain → Type 0
  IsZero t = IsIn t ts → vanishes ty t ≡ true → c t ≡ nothing_value

  typed_at : (t : Plain) → IsIn t ts → HasTypes ty t
  typed_at t i = member_of (HasTypes ty) ts t typed i

  one_nothing : (t : Plain) → ((f : Plain) → IsSmaller f t → IsZero f) → IsIn t ts → vanishes ty t ≡ true → (x : Extracted × ℕ) → IsIn x (other_terms ty t) → IsNothing ty c x
  one_nothing t below i v x j =
      let from = from_other ty t x j in
      let some = vanishing_tree ty t x.0 (in_map (λ (y : Extracted × ℕ). y.0) x (extraction_terms ty t) from.0) v in
      elim (or_cases (vanishes ty x.0.1) (list_any (vanishes ty) x.0.0) some) [
        | inl e ↦ no_quotient ty c x e
        | inr e ↦
            let f = some_vanishing (vanishes ty) x.0.0 e in
            let part = member_of (IsPart ty t) x.0.0 f.0 (parts_of_term ty t x (typed_at t i) j) f.1 in
            let listed = member_of (λ (g : Plain). IsIn g ts) x.0.0 f.0 (member_of (λ (y : Extracted × ℕ). HasAll y.0.0 ts) (extraction_terms ty t) x (closed t i) from.0) f.1 in
            no_forest ty c x f.0 f.1 (below f.0 part.smaller listed f.2)
      ]

  no_value : (t : Plain) → ((f : Plain) → IsSmaller f t → IsZero f) → IsIn t ts → vanishes ty t ≡ true → are_in_range (extraction_terms ty t) ≡ true → from_smaller ty (expected ty) c t ≡ nothing_value
  no_value t below i v range =
      let all = all_members (IsNothing ty c) (other_terms ty t) (one_nothing t below i v) in
      ap (λ b. record { terms = negated_sum (expected ty) c (other_terms ty t); mass = cond b (mass_sum (expected ty) c (other_terms ty t)) overflow }) range
      ∙ ap (λ (us : List PlainTerm). record { terms = us; mass = mass_sum (expected ty) c (other_terms ty t) }) (no_terms ty c (other_terms ty t) all)
      ∙ ap (λ n. record { terms = []; mass = n }) (no_mass ty c (other_terms ty t) all)

  not_empty : (t : Plain) → vanishes ty t ≡ true → is_empty_tree t ≡ false
  not_empty t v =
      (elim (is_empty_tree t) as (λ b. is_empty_tree t ≡ b → b ≡ false) [
        | true ↦ λ e. (let no : true ≡ false = sym v ∙ empty_stays ty t e in absurd cc)
        | false ↦ λ e. refl
      ]) refl

  step : (t : Plain) → ((f : Plain) → IsSmaller f t → IsZero f) → IsZero t
  step t below i v =
      elim (member_of (IsZeroIn ty held) ts t each i v) [
        | inl some ↦ solves t (typed_at t i) ∙ ap (λ (o : Option Weighed). value_at ty (expected ty) o c t) some
        | inr none ↦
            solves t (typed_at t i) ∙ ap (λ (o : Option Weighed). value_at ty (expected ty) o c t) none.0
            ∙ ap (λ b. cond b unit (from_smaller ty (expected ty) c t)) (not_empty t v)
            ∙ no_value t below i v none.1
      ]

  pub vanishing_zero : (t : Plain) → IsIn t ts → vanishes ty t ≡ true → c t ≡ nothing_value
  vanishing_zero t = by_size IsZero step t
