-- A file and the text of a tree have at most one answer of `detail`.
use Rattle.std.proofs.Common.{◌≡◌, ◌≤◌, ℕ, List, [], ◌∷◌, ◌++◌, codes, nat_cmp, unsigned_abs, Result, Ok, Err, ◌⊎◌, inl, inr, refl, sym, ap, ◌∙◌, subst, arith}
use Rattle.std.specs.Cmp.{IsTotalOrder}
use Rattle.std.specs.Cmp.Lexicographic.{lists_total}
use Rattle.std.specs.FinMap.{IsAntisymmetric, slice_cmp-IsAntisymmetric}
use Rattle.std.proofs.lemmas.Cmp.{nat_cmp_total, on_total, then_total}
use Rattle.std.proofs.lemmas.Map.Lookups.{exact_pairs, exact_unsigned}
use Rattle.exact_sums.specs.Saturating.{overflow}
use Rattle.degree_numbers.specs.Types.{AreTypes, name_of}
use Rattle.ordered_lists.proofs.Insertion.{strictly_sorted_unique}
use Rattle.equations.specs.declared.equation.Equation.{Equation}
use Rattle.equations.specs.declared.equation.Unknown.{Unknown}
use Rattle.plain_trees.specs.Plain.{Plain}
use Rattle.plain_trees.specs.Degree.{HasTypes, degree_of}
use Rattle.plain_trees.specs.Coproducts.{extraction_terms, recentring_terms}
use Rattle.symbol_polys.specs.Polynomials.{PlainTerm}
use Rattle.symbol_polys.specs.Text.{poly_text}
use Rattle.symbol_polys.proofs.LinearLaws.{determined}
use Rattle.gaussian_pairings.specs.declared.noises.NoiseEdge.{NoiseEdge}
use Rattle.gaussian_pairings.specs.Pairings.{Pair, pair_order, pairing_order, noise_edges, ArePairings}
use Rattle.antipode_laws.specs.Weighed.{Weighed}
use Rattle.antipode_laws.specs.Antipode.{nothing, tree_terms, IsAntipode}
use Rattle.antipode_laws.specs.Constants.{expected, IsConstants}
use Rattle.antipode_laws.proofs.Solutions as solutions
use Rattle.counterterm_report.specs.Report.{line, named_line}
use Rattle.tree_values.specs.declared.quantity.Quantity.{Quantity}
use Rattle.tree_values.specs.declared.quantity.Quantity.TheVariants.{Extraction, Recentring, Antipode, Constant, Differential, Denominator}
use Rattle.tree_details.specs.Detail.{section, head_text, pairing_line, extraction_line, recentring_line, IsSumText, AreDifferentialLines, IsDetailText}
use Rattle.tree_details.specs.Ranges.{quantities, IsPast, IsFirstPast}
use Rattle.workbench_core.specs.declared.refusal.Refusal.{Refusal}
use Rattle.workbench_core.specs.Compute.{of_tree}
use Rattle.workbench_core.specs.Detail.{IsWritten, IsPastAt, IsDetailed, IsDetailIn, IsDetailOf}
use Rattle.answer_laws.proofs.GivenTexts.{one_for_tree}
use Rattle.answer_laws.proofs.OfFiles.{one_for_file}
use Rattle.answer_laws.proofs.Ranges.{first_one, none_first, first_onward, past_onward}
use Rattle.answer_laws.proofs.Texts.{degree_text_one, den_is_above}

-- the pairings of noise edges
pairings_total : IsTotalOrder pairing_order
pairings_total = lists_total (then_total (on_total (λ (p : Pair). p.0) nat_cmp_total) (on_total (λ (p : Pair). p.1) nat_cmp_total))

pairs_exact : IsAntisymmetric pair_order
pairs_exact p q h = exact_pairs nat_cmp nat_cmp exact_unsigned exact_unsigned p q h

pairings_one : (ns : List NoiseEdge) (ps qs : List (List Pair)) → ArePairings ns ps → ArePairings ns qs → ps ≡ qs
pairings_one ns ps qs h k =
    strictly_sorted_unique pairing_order pairings_total (slice_cmp-IsAntisymmetric pairs_exact) ps qs h.ascending k.ascending (λ x i. (k.all x).0 ((h.all x).1 i)) (λ x i. (h.all x).0 ((k.all x).1 i))

module _ (eq : Equation) where
  sum_text_one : (ts us : List PlainTerm) (text other : List ℕ) → ts ≡ us → IsSumText eq ts text → IsSumText eq us other → text ≡ other
  sum_text_one ts us text other same h k =
      let of_us = subst (λ (xs : List PlainTerm). IsSumText eq xs text) same h in
      let sum : of_us.sum ≡ k.sum =
      determined of_us.sum k.sum of_us.is_sum.ascending k.is_sum.ascending of_us.is_sum.not_zero k.is_sum.not_zero (λ m. of_us.is_sum.coefficients m ∙ sym (k.is_sum.coefficients m)) in
      of_us.is ∙ ap (λ (xs : List PlainTerm). poly_text eq.types eq.parameters xs) sum ∙ sym k.is

  differentials_one : (t : Plain) (us : List Unknown) (text other : List ℕ) →
      AreDifferentialLines eq t us text → AreDifferentialLines eq t us other → text ≡ other
  differentials_one t [] text other h k = h ∙ sym k
  differentials_one t (u ∷ us) text other h k =
      let name = name_of eq.types u.kernel.0 in
      let first = sum_text_one _ _ h.0 k.0 refl h.2 k.2 in
      let rest = differentials_one t us h.1 k.1 h.3 k.3 in
      h.4 ∙ ap (λ (l : List ℕ). named_line (codes "differential ") name l ++ h.1) first ∙ ap (λ (l : List ℕ). named_line (codes "differential ") name k.0 ++ l) rest ∙ sym k.4

  module _ (t : Plain) (typed : HasTypes eq.types t) where
    antipodes_one : (a b : Plain → Weighed) → IsAntipode eq.types a → IsAntipode eq.types b → a t ≡ b t
    antipodes_one a b h k = solutions.unique eq.types tree_terms nothing a b h k t typed

    constants_one : (a b : Plain → Weighed) → IsConstants eq.types nothing a → IsConstants eq.types nothing b → a t ≡ b t
    constants_one a b h k = solutions.unique eq.types (expected eq.types) nothing a b h k t typed

    abbrev text_of : List ℕ → List (List Pair) → List ℕ → List ℕ → List ℕ → List ℕ
    text_of degree pairings antipode constant differentials =
        head_text eq.types t degree
        ++ section (codes "pairings ") pairing_line pairings
        ++ section (codes "extraction ") (extraction_line eq.types) (extraction_terms eq.types t)
        ++ section (codes "recentring ") (recentring_line eq.types) (recentring_terms eq.types t)
        ++ line (codes "antipode ") antipode
        ++ line (codes "constant ") constant
        ++ differentials

    detail_text_one : AreTypes eq.types → (text other : List ℕ) → IsDetailText eq t text → IsDetailText eq t other → text ≡ other
    detail_text_one types text other h k =
        let den = unsigned_abs eq.types.units.den in
        let degree : h.degree ≡ k.degree = degree_text_one (degree_of eq.types t) den h.degree k.degree (den_is_above eq.types types) h.degree_text k.degree_text in
        let pairings : h.pairings ≡ k.pairings = pairings_one (noise_edges eq.types t) h.pairings k.pairings h.are_pairings k.are_pairings in
        let antipode : h.antipode ≡ k.antipode =
        sum_text_one (h.antipodes t).terms (k.antipodes t).terms h.antipode k.antipode (ap (λ (w : Weighed). w.terms) (antipodes_one h.antipodes k.antipodes h.are_antipodes k.are_antipodes))
        h.antipode_text k.antipode_text in
        let constant : h.constant ≡ k.constant =
        sum_text_one (h.constants t).terms (k.constants t).terms h.constant k.constant (ap (λ (w : Weighed). w.terms) (constants_one h.constants k.constants h.are_constants k.are_constants))
        h.constant_text k.constant_text in
        let differentials : h.differentials ≡ k.differentials = differentials_one t eq.unknowns h.differentials k.differentials h.are_differentials k.are_differentials in
        h.is
        ∙ ap (λ (d : List ℕ). text_of d h.pairings h.antipode h.constant h.differentials) degree
        ∙ ap (λ (ps : List (List Pair)). text_of k.degree ps h.antipode h.constant h.differentials) pairings
        ∙ ap (λ (l : List ℕ). text_of k.degree k.pairings l h.constant h.differentials) antipode
        ∙ ap (λ (l : List ℕ). text_of k.degree k.pairings k.antipode l h.differentials) constant
        ∙ ap (λ (l : List ℕ). text_of k.degree k.pairings k.antipode k.constant l) differentials
        ∙ sym k.is

    -- what is out of range
    detail_past_onward : (a b c d : Plain → Weighed) (q : Quantity) → a t ≡ b t → c t ≡ d t → IsPast eq a c t q → IsPast eq b d t q
    detail_past_onward a b c d Extraction antipode constant h = h
    detail_past_onward a b c d Recentring antipode constant h = h
    detail_past_onward a b c d Antipode antipode constant h = subst (λ (w : Weighed). overflow ≤ w.mass) antipode h
    detail_past_onward a b c d Constant antipode constant h = past_onward eq c d t Constant constant h
    detail_past_onward a b c d (Differential kernel) antipode constant h = h
    detail_past_onward a b c d (Denominator kernel) antipode constant h = h

    first_past_onward : (a b c d : Plain → Weighed) (q : Quantity) → a t ≡ b t → c t ≡ d t → IsFirstPast eq a c t q → IsFirstPast eq b d t q
    first_past_onward a b c d q antipode constant h =
        first_onward (IsPast eq a c t) (IsPast eq b d t) (λ p. detail_past_onward a b c d p antipode constant) (λ p. detail_past_onward b a d c p (sym antipode) (sym constant)) (quantities eq) q h

    not_written : (a b c d : Plain → Weighed) (r s : Result (List ℕ) Refusal) → a t ≡ b t → c t ≡ d t → IsWritten eq a c t r → IsPastAt eq b d t s → ⊥
    not_written a b c d r s antipode constant h k =
        none_first (IsPast eq a c t) (quantities eq) k.quantity h.range (first_past_onward b a d c k.quantity (sym antipode) (sym constant) k.first)

    module _ (types : AreTypes eq.types) (a b c d : Plain → Weighed) (antipode : a t ≡ b t) (constant : c t ≡ d t) where
      values_one : (r s : Result (List ℕ) Refusal) → IsWritten eq a c t r ⊎ IsPastAt eq a c t r → IsWritten eq b d t s ⊎ IsPastAt eq b d t s → r ≡ s
      values_one r s (inl h) (inl k) = h.answer ∙ ap Ok (detail_text_one types h.text k.text h.is_text k.is_text) ∙ sym k.answer
      values_one r s (inl h) (inr k) = absurd (not_written a b c d r s antipode constant h k)
      values_one r s (inr h) (inl k) = absurd (not_written b a d c s r (sym antipode) (sym constant) k h)
      values_one r s (inr h) (inr k) =
          let one = first_one (IsPast eq b d t) (quantities eq) h.quantity k.quantity (first_past_onward a b c d h.quantity antipode constant h.first) k.first in
          h.answer ∙ ap (λ (q : Quantity). Err (of_tree eq.types t q)) one ∙ sym k.answer

    detailed_one : AreTypes eq.types → (r s : Result (List ℕ) Refusal) → IsDetailed eq t r → IsDetailed eq t s → r ≡ s
    detailed_one types r s (inl h) (inl k) = h.answer ∙ sym k.answer
    detailed_one types r s (inl h) (inr k) = let many = h.many in let few = k.0 in absurd (omega (arith, many, few))
    detailed_one types r s (inr h) (inl k) = let few = h.0 in let many = k.many in absurd (omega (arith, many, few))
    detailed_one types r s (inr h) (inr k) =
        values_one types h.1.0 k.1.0 h.1.1 k.1.1 (antipodes_one h.1.0 k.1.0 h.1.2 k.1.2) (constants_one h.1.1 k.1.1 h.1.3 k.1.3) r s h.1.4 k.1.4

pub detail_one : (file tree : List ℕ) (r s : Result (List ℕ) Refusal) → IsDetailOf file tree r → IsDetailOf file tree s → r ≡ s
detail_one file tree r s =
    one_for_file (λ eq. IsDetailIn eq tree)
    (λ eq r s equation. one_for_tree eq.types equation.types tree (IsDetailed eq) (λ t r s is. detailed_one eq t is.types equation.types r s) r s) file r s
