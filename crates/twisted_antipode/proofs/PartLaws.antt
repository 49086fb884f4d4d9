-- The parts of the right side of the recursion, forest by forest.
use Rattle.std.proofs.Common.{◌≡◌, ℕ, ◌*◌, ◌≤◌, ℤ, pos, neg_ℤ, ◌+ℤ◌, ◌*ℤ◌, unsigned_abs, inl, inr, true, false, cond, not, List, [], ◌∷◌, ◌++◌, map, refl, sym, ap, ◌∙◌, subst, arith}
use Rattle.std.specs.List.{AllByRecursion}
use Rattle.std.specs.Ordering.{is_eq}
use Rattle.std.proofs.lemmas.Int.{ints}
use Rattle.std.proofs.lemmas.List.Elements.{filter-append}
use Rattle.ordered_lists.specs.Members.{IsIn}
use Rattle.ordered_lists.proofs.Members.{in_map}
use Rattle.exact_sums.specs.Keyed.{IsExactTest, same_by}
use Rattle.exact_sums.proofs.CollectedLaws.{same_by_exact}
use Rattle.exact_sums.specs.Saturating.{overflow, saturated, saturating_plus, saturating_times, saturating_product, product}
use Rattle.exact_sums.proofs.SaturatingLaws.{saturated_mul_right, product_cons, saturating_times_comm}
use Rattle.degree_numbers.specs.declared.types.Types.{Types}
use Rattle.plain_trees.specs.Plain.{Plain}
use Rattle.plain_trees.specs.Canon.{canon}
use Rattle.plain_trees.specs.Degree.{HasTypes, empty_tree}
use Rattle.plain_trees.specs.Coproducts.{Extracted, extracted_order, extraction_terms}
use Rattle.tree_cuttings.proofs.Orders.{extracted_total, extracted_exact}
use Rattle.tree_pool.specs.Content.{tree_at}
use Rattle.cutting_sizes.specs.Bounds.{IsSmaller}
use Rattle.cutting_sizes.proofs.Falls.{term_falls}
use Rattle.pooled_cuttings.specs.Groves.{GroveContent, forest_in}
use Rattle.extraction_coproduct.specs.declared.term.ExtractTerm.{ExtractTerm}
use Rattle.tree_pool.specs.declared.ForestId.{ForestId}
use Rattle.symbol_polys.specs.Polynomials.{PlainTerm, coefficient_of, HaveSameCoefficients, times_all}
use Rattle.symbol_polys.specs.Products.{products}
use Rattle.symbol_polys.proofs.AddLaws.{coefficient_of-append}
use Rattle.symbol_polys.proofs.PolyLaws.{coefficient_of-times_all}
use Rattle.symbol_polys.proofs.CongruenceLaws.{products_same}
use Rattle.symbol_polys.proofs.ProductRules.{products-none}
use Rattle.antipode_laws.specs.Weighed.{Weighed, forest_terms, forest_mass, negated_sum, mass_sum}
use Rattle.antipode_laws.specs.Runs.{with_forest, quotient_sum, quotient_mass}
use Rattle.antipode_laws.proofs.RunLaws.{run_terms, run_mass, sum_of_both, mass_of_both}
use Rattle.antipode_laws.proofs.Masses.{saturating_product_is}
use Rattle.twisted_antipode.specs.declared.quotient.Reading.{Reading}
use Rattle.twisted_antipode.specs.declared.value.Value.{Value}
use Rattle.twisted_antipode.specs.declared.value.Value.TheVariants.{Sum, TooLarge}
use Rattle.twisted_antipode.specs.Quotients.{quotient_terms}
use Rattle.twisted_antipode.specs.RunTerms.{quotients_in, run_value}
use Rattle.twisted_antipode.specs.Values.{IsValueOf, sum_of, product_of, negative_of, forest_weighed}
use Rattle.twisted_antipode.specs.Known.{pairs_in, other_pairs, part_value}

pub value_same : (w u : Weighed) (v : Value) → HaveSameCoefficients w.terms u.terms → w.mass ≡ u.mass → IsValueOf w v → IsValueOf u v
value_same w u (Sum p) same mass h = record { coefficients = λ m. h.coefficients m ∙ same m; mass = h.mass ∙ ap pos mass }
value_same w u TooLarge same mass h = omega (arith, mass, h)

-- a sum with nothing
pub with_nothing : (w u : Weighed) (v : Value) → w.mass ≤ overflow → u.mass ≡ 0 → HaveSameCoefficients u.terms [] → IsValueOf w v → IsValueOf (sum_of w u) v
with_nothing w u v most none empty h =
    let total : w.mass ≡ saturating_plus w.mass u.mass = omega (arith, most, none) in
    value_same w (sum_of w u) v (λ m. let zero = empty m in let sums = coefficient_of-append m w.terms u.terms in omega (arith, ints, zero, sums)) total h

pub nothing_with : (w u : Weighed) (v : Value) → u.mass ≤ overflow → w.mass ≡ 0 → HaveSameCoefficients w.terms [] → IsValueOf u v → IsValueOf (sum_of w u) v
nothing_with w u v most none empty h =
    let total : u.mass ≡ saturating_plus w.mass u.mass = omega (arith, most, none) in
    value_same u (sum_of w u) v (λ m. let zero = empty m in let sums = coefficient_of-append m w.terms u.terms in omega (arith, ints, zero, sums)) total h

-- forests
forest_mass-cons : (m : ℕ) (ms : List ℕ) → saturating_product (m ∷ ms) ≡ saturating_times m (saturating_product ms)
forest_mass-cons m ms =
    saturating_product_is (m ∷ ms) ∙ ap saturated (product_cons m ms) ∙ sym (saturated_mul_right m (product ms))
    ∙ ap (λ (n : ℕ). saturated (m * n)) (sym (saturating_product_is ms))

pub forest_step : (a : Plain → Weighed) (f : Plain) (fs : List Plain) (v : Value) → IsValueOf (product_of (a f) (forest_weighed a fs)) v → IsValueOf (forest_weighed a (f ∷ fs)) v
forest_step a f fs v h =
    value_same (product_of (a f) (forest_weighed a fs)) (forest_weighed a (f ∷ fs)) v (λ m. refl) (sym (forest_mass-cons (a f).mass (map (λ g. (a g).mass) fs))) h

-- terms with one forest
abbrev extracted : List Plain → Plain → ℕ → Extracted × ℕ
extracted fs q n = ((fs, q), n)

pub run_pairs : (g : GroveContent) (f : ForestId) (es : List ExtractTerm) → AllByRecursion (λ e. e.forest ≡ f) es → pairs_in g es ≡ with_forest (forest_in g f.0) (quotients_in g.pool es)
run_pairs g f [] h = refl
run_pairs g f (e ∷ es) h =
    ap (λ (i : ForestId). extracted (forest_in g i.0) (tree_at g.pool e.quotient.0) (unsigned_abs e.coefficient) ∷ pairs_in g es) h.0
    ∙ ap (λ (xs : List (Extracted × ℕ)). extracted (forest_in g f.0) (tree_at g.pool e.quotient.0) (unsigned_abs e.coefficient) ∷ xs) (run_pairs g f es h.1)

module _ (reading : Reading) (ty : Types) (a : Plain → Weighed) where
  abbrev Q : Plain → List PlainTerm
  Q = quotient_terms reading ty

  same_appended : (ts us vs : List PlainTerm) → HaveSameCoefficients us vs → HaveSameCoefficients (ts ++ us) (ts ++ vs)
  same_appended ts us vs h = λ m.
      coefficient_of-append m ts us ∙ ap (λ (z : ℤ). coefficient_of m ts +ℤ z) (h m) ∙ sym (coefficient_of-append m ts vs)

  pub run_added : (w : Weighed) (fs : List Plain) (qs : List (Plain × ℕ)) (v : Value) →
      IsValueOf (sum_of w (negative_of (product_of (forest_weighed a fs) (run_value reading ty qs)))) v → IsValueOf (sum_of w (part_value reading ty a (with_forest fs qs))) v
  run_added w fs qs v h =
      value_same (sum_of w (negative_of (product_of (forest_weighed a fs) (run_value reading ty qs)))) (sum_of w (part_value reading ty a (with_forest fs qs))) v
      (same_appended w.terms (times_all (neg_ℤ (pos 1)) (products (forest_terms a fs) (quotient_sum Q qs))) (negated_sum Q a (with_forest fs qs)) (λ m. sym (run_terms Q a fs qs m)))
      (ap (saturating_plus w.mass) (saturating_times_comm (forest_mass a fs) (quotient_mass Q qs) ∙ sym (run_mass Q a fs qs))) h

  no_mass : (m n : ℕ) → m ≡ 0 → saturating_times m n ≡ 0
  no_mass m n h = let none : saturated (0 * n) ≡ 0 = omega arith in ap (λ (k : ℕ). saturated (k * n)) h ∙ none

  pub run_passed : (w : Weighed) (fs : List Plain) (qs : List (Plain × ℕ)) (v : Value) → w.mass ≤ overflow → (run_value reading ty qs).mass ≡ 0 →
      HaveSameCoefficients (run_value reading ty qs).terms [] → IsValueOf w v → IsValueOf (sum_of w (part_value reading ty a (with_forest fs qs))) v
  run_passed w fs qs v most none empty h =
      let mass = run_mass Q a fs qs ∙ no_mass (quotient_mass Q qs) (forest_mass a fs) none in
      let total : w.mass ≡ saturating_plus w.mass (mass_sum Q a (with_forest fs qs)) = omega (arith, most, mass) in
      value_same w (sum_of w (part_value reading ty a (with_forest fs qs))) v
      (λ m.
      let zero : pos 0 ≡ coefficient_of m (negated_sum Q a (with_forest fs qs)) =
      ap (coefficient_of m) (sym (ap (times_all (neg_ℤ (pos 1))) (products-none (forest_terms a fs))))
      ∙ coefficient_of-times_all (neg_ℤ (pos 1)) m (products (forest_terms a fs) [])
      ∙ ap (λ (z : ℤ). neg_ℤ (pos 1) *ℤ z) (sym (products_same (forest_terms a fs) (forest_terms a fs) (quotient_sum Q qs) [] (λ n. refl) empty m))
      ∙ sym (coefficient_of-times_all (neg_ℤ (pos 1)) m (products (forest_terms a fs) (quotient_sum Q qs)))
      ∙ sym (run_terms Q a fs qs m) in
      let sums = coefficient_of-append m w.terms (negated_sum Q a (with_forest fs qs)) in
      omega (arith, ints, zero, sums))
      total h

  pub nothing_passed : (w : Weighed) (v : Value) → w.mass ≤ overflow → IsValueOf w v → IsValueOf (sum_of w (part_value reading ty a [])) v
  nothing_passed w v most h =
      let total : w.mass ≡ saturating_plus w.mass 0 = omega (arith, most) in
      value_same w (sum_of w (part_value reading ty a [])) v
      (λ m. let sums = coefficient_of-append m w.terms [] in omega (arith, ints, sums)) total h

  pub parts_joined : (xs ys : List (Extracted × ℕ)) (v : Value) → IsValueOf (sum_of (part_value reading ty a xs) (part_value reading ty a ys)) v → IsValueOf (part_value reading ty a (xs ++ ys)) v
  parts_joined xs ys v h =
      value_same (sum_of (part_value reading ty a xs) (part_value reading ty a ys)) (part_value reading ty a (xs ++ ys)) v
      (λ m. ap (coefficient_of m) (sym (sum_of_both Q a xs ys))) (sym (mass_of_both Q a xs ys)) h

-- the term of the whole tree
exact : IsExactTest (same_by extracted_order)
exact = same_by_exact extracted_order extracted_total extracted_exact

abbrev whole : Plain → Extracted
whole t = (canon t ∷ [], empty_tree)

pub others_none : (t : Plain) (xs : List (Extracted × ℕ)) → AllByRecursion (λ x. x.0 ≡ whole t) xs → other_pairs t xs ≡ []
others_none t [] h = refl
others_none t (x ∷ xs) h =
    ap (λ b. cond (not b) (x ∷ other_pairs t xs) (other_pairs t xs)) (ap (λ (k : Extracted). is_eq (extracted_order k (whole t))) h.0 ∙ exact.always (whole t)) ∙ others_none t xs h.1

pub others_all : (t : Plain) (xs : List (Extracted × ℕ)) → AllByRecursion (λ x. x.0 ≡ whole t → ⊥) xs → other_pairs t xs ≡ xs
others_all t [] h = refl
others_all t (x ∷ xs) h =
    (elim (is_eq (extracted_order x.0 (whole t))) as (λ b. is_eq (extracted_order x.0 (whole t)) ≡ b → cond (not b) (x ∷ other_pairs t xs) (other_pairs t xs) ≡ x ∷ xs) [
      | true ↦ λ e. absurd (h.0 (exact.only x.0 (whole t) e))
      | false ↦ λ e. ap (λ (ys : List (Extracted × ℕ)). x ∷ ys) (others_all t xs h.1)
    ]) refl

not_smaller : (t : Plain) → IsSmaller t t → ⊥
not_smaller t (inl l) = omega (arith, l)
not_smaller t (inr l) = let m = l.1 in omega (arith, m)

-- a term whose forest is the tree itself is that of the whole tree
pub is_whole : (ty : Types) (t : Plain) (x : Extracted × ℕ) → HasTypes ty t → IsIn x (extraction_terms ty t) → x.0.0 ≡ t ∷ [] → x.0 ≡ whole t
is_whole ty t x typed listed forest =
    elim (term_falls ty t x.0 typed (in_map (λ (y : Extracted × ℕ). y.0) x (extraction_terms ty t) listed)) [
      | inl e ↦ e
      | inr s ↦ absurd (not_smaller t (subst (AllByRecursion (λ f. IsSmaller f t)) forest s).0)
    ]

pub parts_of_both : (t : Plain) (xs ys : List (Extracted × ℕ)) → other_pairs t (xs ++ ys) ≡ other_pairs t xs ++ other_pairs t ys
parts_of_both t xs ys = filter-append (λ (x : Extracted × ℕ). not (is_eq (extracted_order x.0 (whole t)))) xs ys
