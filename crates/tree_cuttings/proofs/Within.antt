-- The terms of the two coproducts by recursions with a greater bound.
use Rattle.std.proofs.Common.{◌≡◌, ℕ, suc, ◌+◌, ◌-◌, ◌*◌, ◌/◌, ◌<◌, ◌≤◌, pos, ◌≤ℤ◌, Bool, true, false, not, ◌&&◌, List, map, filter, sym, ap, ◌∙◌, arith, unsigned_abs}
use Rattle.std.proofs.lemmas.Bool.{and_parts}
use Rattle.std.proofs.Math.Nat.{div-add-mod, mod-lt}
use Rattle.std.proofs.lemmas.Int.{ints}
use Rattle.std.specs.Ordering.{is_eq}
use Rattle.exact_sums.specs.Sums.{total, counted_if}
use Rattle.exact_sums.specs.Keyed.{same_by, collected}
use Rattle.exact_sums.proofs.SumLaws.{total-filter, total_ext}
use Rattle.exact_sums.proofs.CollectedLaws.{collected_same}
use Rattle.degree_numbers.specs.declared.types.Types.{Types}
use Rattle.degree_numbers.specs.Types.{AreTypes}
use Rattle.plain_trees.specs.Plain.{Plain}
use Rattle.plain_trees.specs.Degree.{degree_of, planted}
use Rattle.plain_trees.specs.Cutting.{root_node, is_closed, component, quotient, splitting_coefficient, cuttings, cutting_sum}
use Rattle.plain_trees.specs.Coproducts.{Extracted, Recentred, each_direction, negative_size, positive_size, extraction_bound, recentring_bound, is_below_zero, is_extracted, is_admissible, are_above_zero, is_recentred, extracted, recentred, extracted_order, recentred_order, extraction_coefficient, recentring_coefficient, extraction_terms, recentring_terms}
use Rattle.tree_cuttings.specs.Entries.{Entry}
use Rattle.tree_cuttings.specs.Rooted.{rooted_entries}
use Rattle.tree_cuttings.specs.Terms.{extraction_entries_within, extraction_entries, recentring_entries_within, extracted_entry, recentred_entry}
use Rattle.tree_cuttings.proofs.Split.{counted_if-and}
use Rattle.tree_cuttings.proofs.Orders.{extracted_total, extracted_exact, recentred_total, recentred_exact}
use Rattle.tree_cuttings.proofs.Positive.{good_closed_entries_pos, rooted_pos, all_filter}
use Rattle.tree_cuttings.proofs.SameSums.{cutting_sum_by_good_entries, closed_sum_by_entries}
use Rattle.tree_cuttings.proofs.Degrees.{below_low}
use Rattle.tree_cuttings.proofs.Bounds.{closed_bounds}
use Rattle.tree_cuttings.proofs.RootedBounds.{rooted_bounds}
use Rattle.tree_cuttings.proofs.Terms.{term_of, sum_at-map, filter_ext, terms_positive, and_assoc, e_terms, r_terms, e_sum, r_sum, e_positive, r_positive, e_entry_test, r_entry_test}

low : (ty : Types) (f : Plain) → is_extracted ty f ≡ true → (degree_of ty f).a ≤ℤ pos 0
low ty f h = below_low (degree_of ty f) (and_parts (not (planted ty f)) (is_below_zero (degree_of ty f)) h).1

-- a number is below the next multiple of the denominator
next_multiple : (ty : Types) → AreTypes ty → (size : ℕ) → size < unsigned_abs ty.units.den * suc (size / unsigned_abs ty.units.den)
next_multiple ty h size =
    let d = unsigned_abs ty.units.den in
    let above = h.den_above in
    let some : 0 < d = omega (arith, ints, above) in
    let split = div-add-mod size d in
    let rest = mod-lt size some in
    omega (arith, split, rest)

module _ (ty : Types) (t : Plain) (n : ℕ) (types : AreTypes ty) where
  abbrev w : List ℕ
  w = each_direction ty.dims n

  abbrev e_value : Extracted → Entry → ℕ
  e_value k e = counted_if (is_eq (extracted_order (extracted_entry e) k)) e.coefficient

  e_same : negative_size ty t / unsigned_abs ty.units.den ≤ n → (k : Extracted) →
      total (e_value k) (extraction_entries_within w ty t) ≡ total (e_value k) (extraction_entries ty t)
  e_same most k =
      let b = negative_size ty t / unsigned_abs ty.units.den in
      let e : b + (n - b) ≡ n = omega (arith, most) in
      ap (λ (i : ℕ). total (e_value k) (extraction_entries_within (each_direction ty.dims i) ty t)) (sym e)
      ∙ closed_bounds ty (is_extracted ty) (low ty) types.scaling b (n - b) t (e_value k) (next_multiple ty types (negative_size ty t))

  e_by_entries : (v : List ℕ) (k : Extracted) →
      cutting_sum v false (λ c. is_admissible ty c && is_eq (extracted_order (extracted c) k)) t ≡ total (e_value k) (extraction_entries_within v ty t)
  e_by_entries v k = cutting_sum_by_good_entries v (is_extracted ty) (e_entry_test ty t k) t

  pub extraction_sums_at : (k : Extracted) → negative_size ty t / unsigned_abs ty.units.den ≤ n →
      cutting_sum w false (λ c. is_admissible ty c && is_eq (extracted_order (extracted c) k)) t ≡ extraction_coefficient ty t k
  unfolding extraction_coefficient
  extraction_sums_at k most = e_by_entries w k ∙ e_same most k ∙ sym (e_by_entries (extraction_bound ty t) k)

  e_listed : List (Extracted × ℕ)
  e_listed = map (term_of extracted_entry (λ (e : Entry). e.coefficient)) (extraction_entries_within w ty t)

  pub extraction_at : negative_size ty t / unsigned_abs ty.units.den ≤ n →
      extraction_terms ty t ≡ collected extracted_order (map (λ e. (extracted_entry e, e.coefficient)) (extraction_entries_within w ty t))
  unfolding extraction_terms e_listed
  extraction_at most =
      collected_same extracted_order extracted_total extracted_exact (e_terms ty t) e_listed (e_positive ty t)
      (terms_positive extracted_entry (λ (e : Entry). e.coefficient) (extraction_entries_within w ty t) (good_closed_entries_pos (is_extracted ty) w t))
      (λ k. e_sum ty t k
      ∙ sym (extraction_sums_at k most)
      ∙ e_by_entries w k
      ∙ sym (total-filter (λ (e : Entry). e.coefficient) (λ e. is_eq (extracted_order (extracted_entry e) k)) (extraction_entries_within w ty t))
      ∙ sym (sum_at-map (same_by extracted_order) extracted_entry (λ (e : Entry). e.coefficient) k (extraction_entries_within w ty t)))

  abbrev r_value : Recentred → Entry → ℕ
  r_value k e = counted_if (is_eq (recentred_order (recentred_entry e) k)) e.coefficient

  r_by_entries : (v : List ℕ) (k : Recentred) →
      cutting_sum v true (λ c. is_recentred ty c && is_eq (recentred_order (recentred c) k)) t ≡ total (λ e. counted_if (are_above_zero ty e.quotient) (r_value k e)) (rooted_entries v t)
  unfolding cutting_sum
  r_by_entries v k =
      let all = cuttings v true t in
      let by_entries : total (splitting_coefficient true) (filter (λ c. is_closed c && r_entry_test ty t k (component c.edges (root_node c)) (quotient c)) all) ≡ total (λ e. counted_if (r_entry_test ty t k e.part e.quotient) e.coefficient) (rooted_entries v t) =
      closed_sum_by_entries v (r_entry_test ty t k) t in
      ap (total (splitting_coefficient true)) (filter_ext (λ c. is_recentred ty c && is_eq (recentred_order (recentred c) k)) (λ c. is_closed c && r_entry_test ty t k (component c.edges (root_node c)) (quotient c))
      (λ c. and_assoc (is_closed c) (are_above_zero ty (quotient c)) (is_eq (recentred_order (recentred c) k))) all)
      ∙ by_entries
      ∙ total_ext (λ e. counted_if (r_entry_test ty t k e.part e.quotient) e.coefficient) (λ e. counted_if (are_above_zero ty e.quotient) (r_value k e)) (rooted_entries v t)
      (λ e. counted_if-and (are_above_zero ty e.quotient) (is_eq (recentred_order (recentred_entry e) k)) e.coefficient)

  r_same : positive_size ty t / unsigned_abs ty.units.den ≤ n → (k : Recentred) →
      total (λ e. counted_if (are_above_zero ty e.quotient) (r_value k e)) (rooted_entries w t) ≡ total (λ e. counted_if (are_above_zero ty e.quotient) (r_value k e)) (rooted_entries (recentring_bound ty t) t)
  r_same most k =
      let b = positive_size ty t / unsigned_abs ty.units.den in
      let e : b + (n - b) ≡ n = omega (arith, most) in
      ap (λ (i : ℕ). total (λ e. counted_if (are_above_zero ty e.quotient) (r_value k e)) (rooted_entries (each_direction ty.dims i) t)) (sym e)
      ∙ rooted_bounds ty types.scaling b (n - b) t (r_value k) (next_multiple ty types (positive_size ty t))

  pub recentring_sums_at : (k : Recentred) → positive_size ty t / unsigned_abs ty.units.den ≤ n →
      cutting_sum w true (λ c. is_recentred ty c && is_eq (recentred_order (recentred c) k)) t ≡ recentring_coefficient ty t k
  unfolding recentring_coefficient
  recentring_sums_at k most = r_by_entries w k ∙ r_same most k ∙ sym (r_by_entries (recentring_bound ty t) k)

  r_listed : List (Recentred × ℕ)
  r_listed = map (term_of recentred_entry (λ (e : Entry). e.coefficient)) (recentring_entries_within w ty t)

  pub recentring_at : positive_size ty t / unsigned_abs ty.units.den ≤ n →
      recentring_terms ty t ≡ collected recentred_order (map (λ e. (recentred_entry e, e.coefficient)) (recentring_entries_within w ty t))
  unfolding recentring_terms r_listed
  recentring_at most =
      let all = rooted_entries w t in
      let above : Entry → Bool = λ e. are_above_zero ty e.quotient in
      collected_same recentred_order recentred_total recentred_exact (r_terms ty t) r_listed (r_positive ty t)
      (terms_positive recentred_entry (λ (e : Entry). e.coefficient) (recentring_entries_within w ty t) (all_filter (λ (e : Entry). 0 < e.coefficient) above all (rooted_pos w t)))
      (λ k. r_sum ty t k
      ∙ sym (recentring_sums_at k most)
      ∙ r_by_entries w k
      ∙ sym (total-filter (r_value k) above all)
      ∙ sym (total-filter (λ (e : Entry). e.coefficient) (λ e. is_eq (recentred_order (recentred_entry e) k)) (filter above all))
      ∙ sym (sum_at-map (same_by recentred_order) recentred_entry (λ (e : Entry). e.coefficient) k (recentring_entries_within w ty t)))

pub extraction_sums_within : (ty : Types) (t : Plain) (n : ℕ) (k : Extracted) → AreTypes ty → negative_size ty t / unsigned_abs ty.units.den ≤ n →
    cutting_sum (each_direction ty.dims n) false (λ c. is_admissible ty c && is_eq (extracted_order (extracted c) k)) t ≡ extraction_coefficient ty t k
extraction_sums_within ty t n k h most = extraction_sums_at ty t n h k most

pub extraction_within : (ty : Types) (t : Plain) (n : ℕ) → AreTypes ty → negative_size ty t / unsigned_abs ty.units.den ≤ n →
    extraction_terms ty t ≡ collected extracted_order (map (λ e. (extracted_entry e, e.coefficient)) (extraction_entries_within (each_direction ty.dims n) ty t))
extraction_within ty t n h most = extraction_at ty t n h most

pub recentring_sums_within : (ty : Types) (t : Plain) (n : ℕ) (k : Recentred) → AreTypes ty → positive_size ty t / unsigned_abs ty.units.den ≤ n →
    cutting_sum (each_direction ty.dims n) true (λ c. is_recentred ty c && is_eq (recentred_order (recentred c) k)) t ≡ recentring_coefficient ty t k
recentring_sums_within ty t n k h most = recentring_sums_at ty t n h k most

pub recentring_within : (ty : Types) (t : Plain) (n : ℕ) → AreTypes ty → positive_size ty t / unsigned_abs ty.units.den ≤ n →
    recentring_terms ty t ≡ collected recentred_order (map (λ e. (recentred_entry e, e.coefficient)) (recentring_entries_within (each_direction ty.dims n) ty t))
recentring_within ty t n h most = recentring_at ty t n h most
