-- The coefficients of a value add up, without signs, to at most its mass.
use Rattle.std.proofs.Common.{◌≡◌, ℕ, ◌+◌, ◌*◌, ◌≤◌, pos, neg_ℤ, sum, true, false, cond, unsigned_abs, List, [], ◌∷◌, map, refl, sym, ap, ◌∙◌, subst, arith, Option, Some, None}
use Rattle.std.specs.List.{AllByRecursion}
use Rattle.std.proofs.lemmas.Int.{ints}
use Rattle.exact_sums.specs.Saturating.{overflow, saturated, saturating_times, product}
use Rattle.exact_sums.proofs.SaturatingLaws.{saturated_mul_left, saturated_mul_right, saturating_sum_is, product_cons}
use Rattle.degree_numbers.specs.declared.types.Types.{Types}
use Rattle.degree_numbers.proofs.TypeBounds.{all_weaker}
use Rattle.plain_trees.specs.Plain.{Plain}
use Rattle.plain_trees.specs.Degree.{HasTypes, is_empty_tree}
use Rattle.plain_trees.specs.Coproducts.{Extracted, extraction_terms}
use Rattle.symbol_polys.specs.Polynomials.{PlainTerm, size_of}
use Rattle.symbol_polys.specs.Products.{products}
use Rattle.symbol_polys.specs.Symbols.{tree, expectation}
use Rattle.symbol_polys.proofs.AddLaws.{size_of-append}
use Rattle.symbol_polys.proofs.PolyLaws.{size_of-times_all}
use Rattle.symbol_polys.proofs.ProductLaws.{size_of-products}
use Rattle.gaussian_pairings.specs.Vanishing.{vanishes}
use Rattle.cutting_sizes.proofs.Counts.{sum-cons}
use Rattle.antipode_laws.specs.Weighed.{Weighed, one, unit, symbol_term, has_terms, forest_terms, forest_mass, negated, negated_sum, term_mass, mass_sum}
use Rattle.antipode_laws.specs.Antipode.{other_terms, are_in_range, from_smaller, value_at, tree_terms, IsSolution}
use Rattle.antipode_laws.specs.Constants.{expected}
use Rattle.antipode_laws.specs.Sizes.{IsWithinMass}
use Rattle.antipode_laws.proofs.BySize.{by_size}
use Rattle.antipode_laws.proofs.Masses.{saturating_product_is}
use Rattle.antipode_laws.proofs.OtherTerms.{IsPart, parts_of_others}

-- monotone
grows : (m n k : ℕ) → m ≤ n → m * k ≤ n * k
grows m n k h = grind (arith)

times_within : (a b m n : ℕ) → saturated a ≤ m → saturated b ≤ n → saturated (a * b) ≤ saturated (m * n)
times_within a b m n h k =
    let first = grows (saturated a) m (saturated b) h in
    let second = grows (saturated b) n m k in
    let left = saturated_mul_left a b in
    let right = saturated_mul_right (saturated a) b in
    omega (arith, first, second, left, right)

plus_within : (a b m n : ℕ) → saturated a ≤ m → saturated b ≤ n → saturated (a + b) ≤ saturated (m + n)
plus_within a b m n h k = omega (arith, h, k)

size_negated : (c : ℕ) → unsigned_abs (neg_ℤ (pos c)) ≡ c
size_negated c = omega (arith, ints)

module _ (of_quotient : Plain → List PlainTerm) (single : (q : Plain) → size_of (of_quotient q) ≤ 1) (a : Plain → Weighed) where
  abbrev Within : Plain → Type 0
  Within f = IsWithinMass (a f)

  within_product : (fs : List Plain) → AllByRecursion Within fs → saturated (size_of (forest_terms a fs)) ≤ saturated (product (map (λ f. (a f).mass) fs))
  within_product [] h = omega arith
  within_product (f ∷ fs) h =
      let sizes = size_of-products (a f).terms (forest_terms a fs) in
      let masses = product_cons (a f).mass (map (λ g. (a g).mass) fs) in
      let both = times_within (size_of (a f).terms) (size_of (forest_terms a fs)) (a f).mass (saturated (product (map (λ g. (a g).mass) fs))) h.0 (within_product fs h.1) in
      let right = saturated_mul_right (a f).mass (product (map (λ g. (a g).mass) fs)) in
      rw (sizes, masses) (omega (arith, both, right))

  within_forest : (fs : List Plain) → AllByRecursion Within fs → saturated (size_of (forest_terms a fs)) ≤ forest_mass a fs
  within_forest fs h = let most = within_product fs h in let is = saturating_product_is (map (λ f. (a f).mass) fs) in omega (arith, most, is)

  size_none : (ts : List PlainTerm) → has_terms ts ≡ false → size_of ts ≡ 0
  size_none [] h = refl
  size_none (t ∷ ts) h = absurd cc

  size_term : (x : Extracted × ℕ) → size_of (negated of_quotient a x) ≡ x.1 * (size_of (forest_terms a x.0.0) * size_of (of_quotient x.0.1))
  size_term x =
      size_of-times_all (neg_ℤ (pos x.1)) (products (forest_terms a x.0.0) (of_quotient x.0.1))
      ∙ ap (λ (n : ℕ). n * size_of (products (forest_terms a x.0.0) (of_quotient x.0.1))) (size_negated x.1)
      ∙ ap (λ (n : ℕ). x.1 * n) (size_of-products (forest_terms a x.0.0) (of_quotient x.0.1))

  product_of : (c f m q : ℕ) → saturated f ≤ m → q ≤ 1 → saturated (c * (f * q)) ≤ saturating_times c m
  product_of c f m q h l =
      let less = grows q 1 f l in
      let more = grows (f * q) f c (omega (arith, less)) in
      let both = times_within f c m (saturated c) h (omega arith) in
      let right = saturated_mul_right m c in
      omega (arith, more, both, right)

  within_term : (x : Extracted × ℕ) → AllByRecursion Within x.0.0 → saturated (size_of (negated of_quotient a x)) ≤ term_mass of_quotient a x
  within_term x h =
      let size = size_term x in
      let some = product_of x.1 (size_of (forest_terms a x.0.0)) (forest_mass a x.0.0) (size_of (of_quotient x.0.1)) (within_forest x.0.0 h) (single x.0.1) in
      (elim (has_terms (of_quotient x.0.1)) as (λ b. has_terms (of_quotient x.0.1) ≡ b → saturated (size_of (negated of_quotient a x)) ≤ cond b (saturating_times x.1 (forest_mass a x.0.0)) 0) [
        | true ↦ λ e. rw size some
        | false ↦ λ e. rw (size, size_none (of_quotient x.0.1) e) (omega arith)
      ]) refl

  within_sum : (xs : List (Extracted × ℕ)) →
      AllByRecursion (λ (x : Extracted × ℕ). AllByRecursion Within x.0.0) xs →
      saturated (size_of (negated_sum of_quotient a xs)) ≤ saturated (sum (map (term_mass of_quotient a) xs))
  within_sum [] h = omega arith
  within_sum (x ∷ xs) h =
      let sizes = size_of-append (negated of_quotient a x) (negated_sum of_quotient a xs) in
      let masses = sum-cons (term_mass of_quotient a x) (map (term_mass of_quotient a) xs) in
      let first = within_term x h.0 in
      let rest = within_sum xs h.1 in
      omega (arith, sizes, masses, first, rest)

  within_value : (ty : Types) (t : Plain) →
      AllByRecursion (λ (x : Extracted × ℕ). AllByRecursion Within x.0.0) (other_terms ty t) →
      IsWithinMass (value_at ty of_quotient None a t)
  within_value ty t h =
      elim (is_empty_tree t) as (λ b. IsWithinMass (cond b unit (from_smaller ty of_quotient a t))) [
        | true ↦ omega arith
        | false ↦ elim (are_in_range (extraction_terms ty t)) as (λ b. saturated (size_of (negated_sum of_quotient a (other_terms ty t))) ≤ cond b (mass_sum of_quotient a (other_terms ty t)) overflow) [
          | true ↦ (let most = within_sum (other_terms ty t) h in let is = saturating_sum_is (map (term_mass of_quotient a) (other_terms ty t)) in omega (arith, most, is))
          | false ↦ omega arith
        ]
      ]

  within_at : (ty : Types) (h : Option Weighed) (t : Plain) →
      ((w : Weighed) → h ≡ Some w → IsWithinMass w) →
      AllByRecursion (λ (x : Extracted × ℕ). AllByRecursion Within x.0.0) (other_terms ty t) →
      IsWithinMass (value_at ty of_quotient h a t)
  within_at ty None t given parts = within_value ty t parts
  within_at ty (Some w) t given parts = given w refl

  pub within_mass : (ty : Types) (held : Plain → Option Weighed) →
      ((t : Plain) (w : Weighed) → held t ≡ Some w → IsWithinMass w) →
      IsSolution ty of_quotient held a → (t : Plain) → HasTypes ty t → IsWithinMass (a t)
  within_mass ty held given solves =
      by_size (λ t. HasTypes ty t → IsWithinMass (a t))
      (λ t below typed.
      subst IsWithinMass (sym (solves t typed))
      (within_at ty (held t) t (given t)
      (all_weaker (λ (x : Extracted × ℕ). AllByRecursion (IsPart ty t) x.0.0) (λ (x : Extracted × ℕ). AllByRecursion Within x.0.0) (other_terms ty t)
      (λ x parts. all_weaker (IsPart ty t) Within x.0.0 (λ f p. below f p.smaller p.typed) parts) (parts_of_others ty t typed))))

pub tree_single : (q : Plain) → size_of (tree_terms q) ≤ 1
tree_single q = elim (is_empty_tree q) as (λ b. size_of (cond b one (symbol_term (tree q))) ≤ 1) [ true ↦ omega arith | false ↦ omega arith ]

pub expected_single : (ty : Types) (q : Plain) → size_of (expected ty q) ≤ 1
expected_single ty q =
    elim (vanishes ty q) as (λ b. size_of (cond b [] (cond (is_empty_tree q) one (symbol_term (expectation q)))) ≤ 1) [
      | true ↦ omega arith
      | false ↦ elim (is_empty_tree q) as (λ b. size_of (cond b one (symbol_term (expectation q))) ≤ 1) [ true ↦ omega arith | false ↦ omega arith ]
    ]
