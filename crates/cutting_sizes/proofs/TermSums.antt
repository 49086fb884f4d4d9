-- The terms of the two coproducts come from cuttings, and what is counted adds up over each.
use Rattle.std.proofs.Common.{◌≡◌, ℕ, ◌+◌, ◌+ℤ◌, true, false, cond, List, [], ◌∷◌, map, filter, refl, sym, ◌∙◌, subst, arith}
use Rattle.std.proofs.lemmas.Int.{ints}
use Rattle.std.specs.List.{AllByRecursion}
use Rattle.std.specs.Ordering.{is_gt}
use Rattle.ordered_lists.specs.Members.{IsIn}
use Rattle.ordered_lists.proofs.Insertion.{all_at_member}
use Rattle.exact_sums.specs.Sums.{total}
use Rattle.exact_sums.specs.Keyed.{keys}
use Rattle.degree_numbers.specs.declared.types.Types.{Types}
use Rattle.degree_numbers.specs.Degree.{degree_plus}
use Rattle.plain_trees.specs.Plain.{Plain, tree_order}
use Rattle.plain_trees.specs.Canon.{canon, IsSame, exchanged, on_both, unchanged, chained}
use Rattle.plain_trees.specs.Degree.{degree_of}
use Rattle.plain_trees.specs.Cutting.{cuttings, splitting_coefficient}
use Rattle.plain_trees.specs.Coproducts.{Extracted, Recentred, extraction_bound, recentring_bound, with_tree, canon_forest, is_extracted, is_admissible, are_above_zero, is_recentred, extracted, recentred, extracted_order, recentred_order, extraction_terms, recentring_terms}
use Rattle.plain_trees.proofs.CanonLaws.{canon_same}
use Rattle.plain_trees.proofs.DegreeLaws.{canon_degree}
use Rattle.tree_cuttings.specs.Entries.{Entry, forest_of}
use Rattle.tree_cuttings.specs.Rooted.{rooted_entries}
use Rattle.tree_cuttings.specs.Terms.{extraction_entries, recentring_entries, extracted_entry, recentred_entry}
use Rattle.tree_cuttings.proofs.Terms.{extraction_by_recursion, recentring_by_recursion}
use Rattle.cutting_sizes.specs.Sizes.{sum_over, AddUp, degrees_of}
use Rattle.cutting_sizes.specs.Origins.{IsExtraction, IsRecentring}
use Rattle.cutting_sizes.proofs.Made.{IsMade, IsClosed, closed_entries_made, rooted_made, rooted_alone}
use Rattle.cutting_sizes.proofs.AddsUp.{closed_adds_up, alone_adds_up}
use Rattle.cutting_sizes.proofs.DegreeSums.{same_degree, closed_degrees, alone_degrees}
use Rattle.cutting_sizes.proofs.Members.{from_filter, from_collected, from_keys}

pub same_sum : (f : List ℕ → ℕ) (g : ℕ → List ℕ → ℕ) {s t : Plain} → IsSame s t → sum_over f g s ≡ sum_over f g t
same_sum f g (exchanged k p c l q d t) = omega arith
same_sum f g (on_both k p h j) = omega (arith, same_sum f g h, same_sum f g j)
same_sum f g (unchanged t) = refl
same_sum f g (chained h j) = same_sum f g h ∙ same_sum f g j

pub canon-sum : (f : List ℕ → ℕ) (g : ℕ → List ℕ → ℕ) (t : Plain) → sum_over f g (canon t) ≡ sum_over f g t
canon-sum f g t = sym (same_sum f g (canon_same t))

-- a sum over a forest in canonical form
total-with_tree : (s : Plain → ℕ) (t : Plain) (ts : List Plain) → total s (with_tree t ts) ≡ s t + total s ts
total-with_tree s t [] = refl
total-with_tree s t (u ∷ us) =
    elim (is_gt (tree_order t u)) as (λ b. total s (cond b (u ∷ with_tree t us) (t ∷ u ∷ us)) ≡ s t + (s u + total s us)) [ true ↦ omega (arith, total-with_tree s t us) | false ↦ refl ]

pub total-canon_forest : (s : Plain → ℕ) → ((t : Plain) → s (canon t) ≡ s t) → (ts : List Plain) → total s (canon_forest ts) ≡ total s ts
total-canon_forest s h [] = refl
total-canon_forest s h (t ∷ ts) = omega (arith, total-with_tree s (canon t) (canon_forest ts), h t, total-canon_forest s h ts)

-- a property of trees that canonical form keeps
all-with_tree : (P : Plain → Type 0) (t : Plain) (ts : List Plain) → P t → AllByRecursion P ts → AllByRecursion P (with_tree t ts)
all-with_tree P t [] h k = (h, tt)
all-with_tree P t (u ∷ us) h k =
    elim (is_gt (tree_order t u)) as (λ b. AllByRecursion P (cond b (u ∷ with_tree t us) (t ∷ u ∷ us))) [ true ↦ (k.0, all-with_tree P t us h k.1) | false ↦ (h, k) ]

pub all-canon_forest : (P : Plain → Type 0) → ((t : Plain) → P t → P (canon t)) → (ts : List Plain) → AllByRecursion P ts → AllByRecursion P (canon_forest ts)
all-canon_forest P h [] k = tt
all-canon_forest P h (t ∷ ts) k = all-with_tree P (canon t) (canon_forest ts) (h t k.0) (all-canon_forest P h ts k.1)

pub canonical_adds_up : (t : Plain) (ts : List Plain) (q : Plain) → AddUp t ts q → AddUp t (canon_forest ts) (canon q)
canonical_adds_up t ts q up = record {
  shift = up.shift;
  sums = λ f g h a. let all = total-canon_forest (sum_over f g) (canon-sum f g) ts in let one = canon-sum f g q in let s = up.sums f g h a in omega (arith, all, one, s);
  in_components = λ f g h a. let all = total-canon_forest (sum_over f (λ k p. 0)) (canon-sum f (λ k p. 0)) ts in let s = up.in_components f g h a in omega (arith, all, s);
  in_quotient = λ f g h a. let one = canon-sum (λ n. 0) g q in let s = up.in_quotient f g h a in omega (arith, one, s);
}

module _ (ty : Types) where
  a-with_tree : (t : Plain) (ts : List Plain) → (degrees_of ty (with_tree t ts)).a ≡ (degree_of ty t).a +ℤ (degrees_of ty ts).a
  a-with_tree t [] = refl
  a-with_tree t (u ∷ us) =
      elim (is_gt (tree_order t u)) as (λ b. (degrees_of ty (cond b (u ∷ with_tree t us) (t ∷ u ∷ us))).a ≡ (degree_of ty t).a +ℤ ((degree_of ty u).a +ℤ (degrees_of ty us).a)) [
        | true ↦ (let e = a-with_tree t us in omega (arith, ints, e))
        | false ↦ refl
      ]

  b-with_tree : (t : Plain) (ts : List Plain) → (degrees_of ty (with_tree t ts)).b ≡ (degree_of ty t).b +ℤ (degrees_of ty ts).b
  b-with_tree t [] = refl
  b-with_tree t (u ∷ us) =
      elim (is_gt (tree_order t u)) as (λ b. (degrees_of ty (cond b (u ∷ with_tree t us) (t ∷ u ∷ us))).b ≡ (degree_of ty t).b +ℤ ((degree_of ty u).b +ℤ (degrees_of ty us).b)) [
        | true ↦ (let e = b-with_tree t us in omega (arith, ints, e))
        | false ↦ refl
      ]

  pub canon_forest-degrees : (ts : List Plain) → degrees_of ty (canon_forest ts) ≡ degrees_of ty ts
  canon_forest-degrees [] = refl
  canon_forest-degrees (t ∷ ts) =
      same_degree (degrees_of ty (with_tree (canon t) (canon_forest ts))) (degree_plus (degree_of ty (canon t)) (degrees_of ty (canon_forest ts))) (a-with_tree (canon t) (canon_forest ts)) (b-with_tree (canon t) (canon_forest ts))
      ∙ rw (canon_degree ty t, canon_forest-degrees ts) refl

  pub canonical_degrees : (t : Plain) (ts : List Plain) (q : Plain) →
      degree_plus (degrees_of ty ts) (degree_of ty q) ≡ degree_of ty t →
      degree_plus (degrees_of ty (canon_forest ts)) (degree_of ty (canon q)) ≡ degree_of ty t
  canonical_degrees t ts q e = rw (canon_forest-degrees ts, canon_degree ty q) e

  -- the terms of the extraction coproduct
  pub extraction_comes : (t : Plain) (k : Extracted) → IsIn k (keys (extraction_terms ty t)) → IsExtraction ty t k
  unfolding extraction_terms
  extraction_comes t k h =
      let list = filter (is_admissible ty) (cuttings (extraction_bound ty t) false t) in
      let from = from_keys extracted (splitting_coefficient false) k list (from_collected extracted_order k (map (λ c. (extracted c, splitting_coefficient false c)) list) h) in
      let member = from_filter (is_admissible ty) from.0 (cuttings (extraction_bound ty t) false t) from.1 in
      record { cutting = from.0; of_tree = member.0; admissible = member.1; gives = from.2 }

  abbrev pub IsExtractedBy : Plain → Extracted → Entry → Type 0
  IsExtractedBy t k e = IsClosed (is_extracted ty) (extraction_bound ty t) t e × (extracted_entry e ≡ k)

  pub extraction_entry : (t : Plain) (k : Extracted) → IsIn k (keys (extraction_terms ty t)) → (e : Entry) × IsExtractedBy t k e
  extraction_entry t k h =
      let list = extraction_entries ty t in
      let listed = subst (λ ts. IsIn k (keys ts)) (extraction_by_recursion ty t) h in
      let from = from_keys extracted_entry (λ (e : Entry). e.coefficient) k list (from_collected extracted_order k (map (λ e. (extracted_entry e, e.coefficient)) list) listed) in
      (from.0, (all_at_member (IsClosed (is_extracted ty) (extraction_bound ty t) t) list from.0 (closed_entries_made (is_extracted ty) (extraction_bound ty t) t) from.1, from.2))

  pub extraction_adds_up : (t : Plain) (k : Extracted) → IsIn k (keys (extraction_terms ty t)) → AddUp t k.0 k.1
  extraction_adds_up t k h =
      let from = extraction_entry t k h in
      let e = from.0 in
      subst (λ (l : Extracted). AddUp t l.0 l.1) from.1.1 (canonical_adds_up t (forest_of e) e.quotient (closed_adds_up (is_extracted ty) (extraction_bound ty t) t e from.1.0))

  pub extraction_degrees : (t : Plain) (k : Extracted) → IsIn k (keys (extraction_terms ty t)) →
      degree_plus (degrees_of ty k.0) (degree_of ty k.1) ≡ degree_of ty t
  extraction_degrees t k h =
      let from = extraction_entry t k h in
      let e = from.0 in
      subst (λ (l : Extracted). degree_plus (degrees_of ty l.0) (degree_of ty l.1) ≡ degree_of ty t) from.1.1
      (canonical_degrees t (forest_of e) e.quotient (closed_degrees ty (is_extracted ty) (extraction_bound ty t) t e from.1.0))

  -- the terms of the recentring coproduct
  pub recentring_comes : (t : Plain) (k : Recentred) → IsIn k (keys (recentring_terms ty t)) → IsRecentring ty t k
  unfolding recentring_terms
  recentring_comes t k h =
      let list = filter (is_recentred ty) (cuttings (recentring_bound ty t) true t) in
      let from = from_keys recentred (splitting_coefficient true) k list (from_collected recentred_order k (map (λ c. (recentred c, splitting_coefficient true c)) list) h) in
      let member = from_filter (is_recentred ty) from.0 (cuttings (recentring_bound ty t) true t) from.1 in
      record { cutting = from.0; of_tree = member.0; recentres = member.1; gives = from.2 }

  pub record IsRecentredBy (t : Plain) (k : Recentred) (e : Entry) : Type 0 where
    pub made : IsMade (λ f. true) (recentring_bound ty t) true t e
    pub listed : IsIn e (rooted_entries (recentring_bound ty t) t)
    pub alone : e.above ≡ []
    pub branches : are_above_zero ty e.quotient ≡ true
    pub gives : recentred_entry e ≡ k

  pub recentring_entry : (t : Plain) (k : Recentred) → IsIn k (keys (recentring_terms ty t)) → (e : Entry) × IsRecentredBy t k e
  recentring_entry t k h =
      let w = recentring_bound ty t in
      let list = recentring_entries ty t in
      let listed = subst (λ ts. IsIn k (keys ts)) (recentring_by_recursion ty t) h in
      let from = from_keys recentred_entry (λ (e : Entry). e.coefficient) k list (from_collected recentred_order k (map (λ e. (recentred_entry e, e.coefficient)) list) listed) in
      let member = from_filter (λ (e : Entry). are_above_zero ty e.quotient) from.0 (rooted_entries w t) from.1 in (
        from.0,
        record {
          made = all_at_member (IsMade (λ f. true) w true t) (rooted_entries w t) from.0 (rooted_made (λ f. true) w t) member.0;
          listed = member.0;
          alone = all_at_member (λ (e : Entry). e.above ≡ []) (rooted_entries w t) from.0 (rooted_alone w t) member.0;
          branches = member.1;
          gives = from.2;
        },
      )

  pub recentring_adds_up : (t : Plain) (k : Recentred) → IsIn k (keys (recentring_terms ty t)) → AddUp t (k.0 ∷ []) k.1
  recentring_adds_up t k h =
      let from = recentring_entry t k h in
      let e = from.0 in
      subst (λ (l : Recentred). AddUp t (l.0 ∷ []) l.1) from.1.gives (canonical_adds_up t (e.part ∷ []) e.quotient (alone_adds_up (λ f. true) (recentring_bound ty t) t e from.1.made from.1.alone))

  pub recentring_degrees : (t : Plain) (k : Recentred) → IsIn k (keys (recentring_terms ty t)) →
      degree_plus (degree_of ty k.0) (degree_of ty k.1) ≡ degree_of ty t
  recentring_degrees t k h =
      let from = recentring_entry t k h in
      let e = from.0 in
      subst (λ (l : Recentred). degree_plus (degree_of ty l.0) (degree_of ty l.1) ≡ degree_of ty t) from.1.gives
      (rw (canon_degree ty e.part, canon_degree ty e.quotient) (alone_degrees ty (λ f. true) (recentring_bound ty t) t e from.1.made from.1.alone))
