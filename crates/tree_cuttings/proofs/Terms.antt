-- The terms of the two coproducts: their coefficients, their order, and the recursion that gives
-- them.
use Rattle.std.proofs.Common.{◌≡◌, ℕ, ◌+◌, ◌<◌, Bool, true, false, cond, ◌&&◌, List, [], ◌∷◌, map, filter, refl, sym, ap, ◌∙◌, arith}
use Rattle.std.specs.List.{AllByRecursion}
use Rattle.std.specs.List.Sorted.{IsStrictlySortedBy}
use Rattle.std.specs.Ordering.{is_eq}
use Rattle.exact_sums.specs.Sums.{total, counted_if}
use Rattle.exact_sums.specs.Keyed.{same_by, sum_at, collected, keys}
use Rattle.exact_sums.proofs.SumLaws.{total-filter}
use Rattle.exact_sums.proofs.CollectedLaws.{sum_at-collected, collected_positive, collected_ascending, collected_same}
use Rattle.degree_numbers.specs.declared.types.Types.{Types}
use Rattle.plain_trees.specs.Plain.{Plain}
use Rattle.plain_trees.specs.Canon.{canon}
use Rattle.plain_trees.specs.Cutting.{Cutting, root_node, is_closed, component, quotient, splitting_coefficient, cuttings, cutting_sum}
use Rattle.plain_trees.specs.Coproducts.{Extracted, Recentred, extraction_bound, recentring_bound, canon_forest, is_extracted, is_admissible, are_above_zero, is_recentred, extracted, recentred, extracted_order, recentred_order, extraction_coefficient, recentring_coefficient, extraction_terms, recentring_terms}
use Rattle.tree_cuttings.specs.Entries.{Entry}
use Rattle.tree_cuttings.specs.Rooted.{rooted_entries}
use Rattle.tree_cuttings.specs.Terms.{extraction_entries, recentring_entries, extracted_entry, recentred_entry}
use Rattle.tree_cuttings.proofs.Orders.{extracted_total, extracted_exact, recentred_total, recentred_exact}
use Rattle.tree_cuttings.proofs.Positive.{splitting_pos, good_closed_entries_pos, rooted_pos, all_filter}
use Rattle.tree_cuttings.proofs.SameSums.{cutting_sum_by_good_entries, closed_sum_by_entries}

pub filter-filter : {X : Type 0} (p q : X → Bool) (xs : List X) → filter q (filter p xs) ≡ filter (λ x. p x && q x) xs
filter-filter p q [] = refl
filter-filter p q (x ∷ xs) =
    elim (p x) as (λ b. filter q (cond b (x ∷ filter p xs) (filter p xs)) ≡ cond (b && q x) (x ∷ filter (λ y. p y && q y) xs) (filter (λ y. p y && q y) xs)) [
      | true ↦ ap (λ ys. cond (q x) (x ∷ ys) ys) (filter-filter p q xs)
      | false ↦ filter-filter p q xs
    ]

pub filter_ext : {X : Type 0} (p q : X → Bool) → ((x : X) → p x ≡ q x) → (xs : List X) → filter p xs ≡ filter q xs
filter_ext p q h [] = refl
filter_ext {X} p q h (x ∷ xs) = ap (λ (b : Bool). cond b (x ∷ filter p xs) (filter p xs)) (h x) ∙ ap (λ ys. cond (q x) (x ∷ ys) ys) (filter_ext p q h xs)

abbrev pub term_of : {X K : Type 0} → (X → K) → (X → ℕ) → X → K × ℕ
term_of f g x = (f x, g x)

-- the sum at a key of the terms that the members of a list give
pub sum_at-map : {X K : Type 0} (same : K → K → Bool) (f : X → K) (g : X → ℕ) (k : K) (xs : List X) →
    sum_at same k (map (term_of f g) xs) ≡ total g (filter (λ x. same (f x) k) xs)
sum_at-map same f g k [] = refl
sum_at-map same f g k (x ∷ xs) =
    elim (same (f x) k) as (λ b. cond b (g x) 0 + sum_at same k (map (term_of f g) xs) ≡ total g (cond b (x ∷ filter (λ y. same (f y) k) xs) (filter (λ y. same (f y) k) xs))) [
      | true ↦ ap (λ (n : ℕ). g x + n) (sum_at-map same f g k xs)
      | false ↦ let rest = sum_at-map same f g k xs in omega (arith, rest)
    ]

pub terms_positive : {X K : Type 0} (f : X → K) (g : X → ℕ) (xs : List X) →
    AllByRecursion (λ x. 0 < g x) xs →
    AllByRecursion (λ (t : K × ℕ). 0 < t.1) (map (term_of f g) xs)
terms_positive f g [] a = tt
terms_positive f g (x ∷ xs) a = (a.0, terms_positive f g xs a.1)

always : {X : Type 0} (g : X → ℕ) → ((x : X) → 0 < g x) → (xs : List X) → AllByRecursion (λ x. 0 < g x) xs
always g h [] = tt
always g h (x ∷ xs) = (h x, always g h xs)

pub and_assoc : (a b c : Bool) → (a && b) && c ≡ a && (b && c)
and_assoc true b c = refl
and_assoc false b c = refl

module _ (ty : Types) (t : Plain) where
  abbrev pub e_list : List Cutting
  e_list = filter (is_admissible ty) (cuttings (extraction_bound ty t) false t)

  abbrev pub e_terms : List (Extracted × ℕ)
  e_terms = map (term_of extracted (splitting_coefficient false)) e_list

  abbrev pub r_list : List Cutting
  r_list = filter (is_recentred ty) (cuttings (recentring_bound ty t) true t)

  abbrev pub r_terms : List (Recentred × ℕ)
  r_terms = map (term_of recentred (splitting_coefficient true)) r_list

  pub e_sum : (k : Extracted) → sum_at (same_by extracted_order) k e_terms ≡ extraction_coefficient ty t k
  unfolding extraction_coefficient cutting_sum
  e_sum k =
      sum_at-map (same_by extracted_order) extracted (splitting_coefficient false) k e_list
      ∙ ap (total (splitting_coefficient false)) (filter-filter (is_admissible ty) (λ c. is_eq (extracted_order (extracted c) k)) (cuttings (extraction_bound ty t) false t))

  pub r_sum : (k : Recentred) → sum_at (same_by recentred_order) k r_terms ≡ recentring_coefficient ty t k
  unfolding recentring_coefficient cutting_sum
  r_sum k =
      sum_at-map (same_by recentred_order) recentred (splitting_coefficient true) k r_list
      ∙ ap (total (splitting_coefficient true)) (filter-filter (is_recentred ty) (λ c. is_eq (recentred_order (recentred c) k)) (cuttings (recentring_bound ty t) true t))

  pub e_positive : AllByRecursion (λ (e : Extracted × ℕ). 0 < e.1) e_terms
  e_positive = terms_positive extracted (splitting_coefficient false) e_list (always (splitting_coefficient false) (splitting_pos false) e_list)

  pub r_positive : AllByRecursion (λ (e : Recentred × ℕ). 0 < e.1) r_terms
  r_positive = terms_positive recentred (splitting_coefficient true) r_list (always (splitting_coefficient true) (splitting_pos true) r_list)

  pub extraction_sums : (k : Extracted) → sum_at (same_by extracted_order) k (extraction_terms ty t) ≡ extraction_coefficient ty t k
  unfolding extraction_terms
  extraction_sums k = sum_at-collected extracted_order extracted_exact k e_terms ∙ e_sum k

  pub recentring_sums : (k : Recentred) → sum_at (same_by recentred_order) k (recentring_terms ty t) ≡ recentring_coefficient ty t k
  unfolding recentring_terms
  recentring_sums k = sum_at-collected recentred_order recentred_exact k r_terms ∙ r_sum k

  pub extraction_ascending : IsStrictlySortedBy extracted_order (keys (extraction_terms ty t))
  unfolding extraction_terms
  extraction_ascending = collected_ascending extracted_order extracted_total e_terms

  pub recentring_ascending : IsStrictlySortedBy recentred_order (keys (recentring_terms ty t))
  unfolding recentring_terms
  recentring_ascending = collected_ascending recentred_order recentred_total r_terms

  pub extraction_positive : AllByRecursion (λ (e : Extracted × ℕ). 0 < e.1) (extraction_terms ty t)
  unfolding extraction_terms
  extraction_positive = collected_positive extracted_order e_terms e_positive

  pub recentring_positive : AllByRecursion (λ (e : Recentred × ℕ). 0 < e.1) (recentring_terms ty t)
  unfolding recentring_terms
  recentring_positive = collected_positive recentred_order r_terms r_positive

  -- by the recursion down the tree
  abbrev pub e_entry_test : Extracted → List Plain → Plain → Bool
  e_entry_test k fs q = is_eq (extracted_order (canon_forest fs, canon q) k)

  e_entries_sum : (k : Extracted) →
      sum_at (same_by extracted_order) k (map (term_of extracted_entry (λ e. e.coefficient)) (extraction_entries ty t)) ≡ extraction_coefficient ty t k
  unfolding extraction_coefficient
  e_entries_sum k =
      sum_at-map (same_by extracted_order) extracted_entry (λ (e : Entry). e.coefficient) k (extraction_entries ty t)
      ∙ total-filter (λ (e : Entry). e.coefficient) (λ e. is_eq (extracted_order (extracted_entry e) k)) (extraction_entries ty t)
      ∙ sym (cutting_sum_by_good_entries (extraction_bound ty t) (is_extracted ty) (e_entry_test k) t)

  pub extraction_by_recursion : extraction_terms ty t ≡ collected extracted_order (map (λ e. (extracted_entry e, e.coefficient)) (extraction_entries ty t))
  unfolding extraction_terms
  extraction_by_recursion =
      collected_same extracted_order extracted_total extracted_exact e_terms (map (term_of extracted_entry (λ e. e.coefficient)) (extraction_entries ty t)) e_positive
      (terms_positive extracted_entry (λ (e : Entry). e.coefficient) (extraction_entries ty t) (good_closed_entries_pos (is_extracted ty) (extraction_bound ty t) t))
      (λ k. e_sum k ∙ sym (e_entries_sum k))

  abbrev pub r_entry_test : Recentred → Plain → Plain → Bool
  r_entry_test k l q = are_above_zero ty q && is_eq (recentred_order (canon l, canon q) k)

  r_entries_sum : (k : Recentred) →
      sum_at (same_by recentred_order) k (map (term_of recentred_entry (λ e. e.coefficient)) (recentring_entries ty t)) ≡ recentring_coefficient ty t k
  unfolding recentring_coefficient cutting_sum
  r_entries_sum k =
      let w = recentring_bound ty t in
      let all = cuttings w true t in
      let by_entries : total (splitting_coefficient true) (filter (λ c. is_closed c && r_entry_test k (component c.edges (root_node c)) (quotient c)) all) ≡ total (λ e. counted_if (r_entry_test k e.part e.quotient) e.coefficient) (rooted_entries w t) =
      closed_sum_by_entries w (r_entry_test k) t in
      sum_at-map (same_by recentred_order) recentred_entry (λ (e : Entry). e.coefficient) k (recentring_entries ty t)
      ∙ ap (total (λ (e : Entry). e.coefficient)) (filter-filter (λ (e : Entry). are_above_zero ty e.quotient) (λ e. is_eq (recentred_order (recentred_entry e) k)) (rooted_entries w t))
      ∙ total-filter (λ (e : Entry). e.coefficient) (λ e. r_entry_test k e.part e.quotient) (rooted_entries w t)
      ∙ sym by_entries
      ∙ ap (total (splitting_coefficient true)) (filter_ext (λ c. is_closed c && r_entry_test k (component c.edges (root_node c)) (quotient c)) (λ c. is_recentred ty c && is_eq (recentred_order (recentred c) k))
      (λ c. sym (and_assoc (is_closed c) (are_above_zero ty (quotient c)) (is_eq (recentred_order (recentred c) k)))) all)

  pub recentring_by_recursion : recentring_terms ty t ≡ collected recentred_order (map (λ e. (recentred_entry e, e.coefficient)) (recentring_entries ty t))
  unfolding recentring_terms
  recentring_by_recursion =
      collected_same recentred_order recentred_total recentred_exact r_terms (map (term_of recentred_entry (λ e. e.coefficient)) (recentring_entries ty t)) r_positive
      (terms_positive recentred_entry (λ (e : Entry). e.coefficient) (recentring_entries ty t)
      (all_filter (λ (e : Entry). 0 < e.coefficient) (λ e. are_above_zero ty e.quotient) (rooted_entries (recentring_bound ty t) t) (rooted_pos (recentring_bound ty t) t)))
      (λ k. r_sum k ∙ sym (r_entries_sum k))
