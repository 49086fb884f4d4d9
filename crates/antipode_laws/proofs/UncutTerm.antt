-- The term of the cutting that cuts nothing: no tree in the forest, and the tree itself as the
-- quotient.
use Rattle.std.proofs.Common.{◌≡◌, ℕ, ◌+◌, inl, inr, Bool, true, false, cond, not, List, [], ◌∷◌, ◌++◌, map, filter, refl, sym, ap, ◌∙◌, subst, Ordering, Less, Equal, Greater}
use Rattle.std.specs.Ordering.{is_eq, is_gt}
use Rattle.std.proofs.lemmas.Map.Lookups.{CmpEqualImpliesEq}
use Rattle.ordered_lists.specs.Members.{IsIn}
use Rattle.ordered_lists.proofs.Members.{in_map, from_map}
use Rattle.exact_sums.specs.Keyed.{with_term, collected, keys}
use Rattle.degree_numbers.specs.declared.types.Types.{Types}
use Rattle.plain_trees.specs.Plain.{Plain, bare, graft}
use Rattle.plain_trees.specs.Canon.{canon}
use Rattle.plain_trees.specs.Degree.{empty_tree}
use Rattle.plain_trees.specs.Multinomials.{zeros}
use Rattle.plain_trees.specs.Coproducts.{Extracted, extracted_order, extraction_bound, is_extracted, canon_forest, extraction_terms}
use Rattle.tree_cuttings.specs.Roots.{has_edge, raised}
use Rattle.tree_cuttings.specs.Entries.{Entry, forest_of, with_outside, good_entries}
use Rattle.tree_cuttings.specs.Terms.{extraction_entries, extracted_entry}
use Rattle.tree_cuttings.proofs.Orders.{extracted_exact}
use Rattle.tree_cuttings.proofs.Terms.{extraction_by_recursion}
use Rattle.tree_cuttings.proofs.Whole.{plus-zeros}
use Rattle.cutting_sizes.proofs.Made.{idle_entry}
use Rattle.cutting_sizes.proofs.Steps.{step_idle, close_idle}
use Rattle.antipode_laws.specs.Antipode.{other_terms}

pub in_filter : {X : Type 0} (p : X → Bool) (x : X) (xs : List X) → IsIn x xs → p x ≡ true → IsIn x (filter p xs)
in_filter p x [] h t = absurd h
in_filter {X} p x (y ∷ ys) h t =
    (elim (p y) as (λ b. p y ≡ b → IsIn x (cond b (y ∷ filter p ys) (filter p ys))) [
      | true ↦ λ e. elim h [ inl q ↦ inl q | inr r ↦ inr (in_filter p x ys r t) ]
      | false ↦ λ e. elim h [
        | inl q ↦ (let same : p y ≡ p x = ap (λ (z : X). p z) q in absurd cc)
        | inr r ↦ in_filter p x ys r t
      ]
    ]) refl

-- collecting loses no key
module _ {K : Type 0} (cmp : K → K → Ordering) (exact : CmpEqualImpliesEq cmp) where
  own_key : (t : K × ℕ) (us : List (K × ℕ)) → IsIn t.0 (keys (with_term cmp t us))
  own_key t [] = inl refl
  own_key t (u ∷ us) =
      (elim (cmp t.0 u.0) as (λ o. cmp t.0 u.0 ≡ o → IsIn t.0 (keys (cond (is_gt o) (u ∷ with_term cmp t us) (cond (is_eq o) ((u.0, t.1 + u.1) ∷ us) (t ∷ u ∷ us))))) [
        | Less ↦ λ e. inl refl
        | Equal ↦ λ e. inl (sym (exact t.0 u.0 e))
        | Greater ↦ λ e. inr (own_key t us)
      ]) refl

  old_key : (k : K) (t : K × ℕ) (us : List (K × ℕ)) → IsIn k (keys us) → IsIn k (keys (with_term cmp t us))
  old_key k t [] h = absurd h
  old_key k t (u ∷ us) h =
      elim (cmp t.0 u.0) as (λ o. IsIn k (keys (cond (is_gt o) (u ∷ with_term cmp t us) (cond (is_eq o) ((u.0, t.1 + u.1) ∷ us) (t ∷ u ∷ us))))) [
        | Less ↦ inr h
        | Equal ↦ h
        | Greater ↦ elim h [ inl e ↦ inl e | inr r ↦ inr (old_key k t us r) ]
      ]

  pub in_collected : (k : K) (ts : List (K × ℕ)) → IsIn k (keys ts) → IsIn k (keys (collected cmp ts))
  in_collected k [] h = absurd h
  in_collected k (t ∷ ts) h =
      elim h [
        | inl e ↦ subst (λ (j : K). IsIn j (keys (with_term cmp t (collected cmp ts)))) e (own_key t (collected cmp ts))
        | inr r ↦ old_key k t (collected cmp ts) (in_collected k ts r)
      ]

module _ (good : Plain → Bool) (w : List ℕ) where
  record Uncut (t : Plain) : Type 0 where
    entry : Entry
    listed : IsIn entry (good_entries good w false t)
    above : entry.above ≡ []
    part : has_edge entry.part ≡ false
    quotient : entry.quotient ≡ t

  edge-raised : (s : List ℕ) (t : Plain) → has_edge (raised s t) ≡ has_edge t
  edge-raised s (bare n) = refl
  edge-raised s (graft k p c t) = refl

  forest_none : (e : Entry) → has_edge e.part ≡ false → e.above ≡ [] → forest_of e ≡ []
  forest_none e part above = ap (λ b. cond b (e.part ∷ e.above) e.above) part ∙ above

  uncut : (t : Plain) → Uncut t
  uncut (bare n) = record { entry = idle_entry n; listed = inl refl; above = refl; part = refl; quotient = refl }
  uncut (graft k p c t) =
      let x = uncut c in
      let y = uncut t in
      record {
        entry = with_outside (zeros p) k p x.entry y.entry;
        listed = step_idle good w k p c t x.entry y.entry (close_idle good w c x.entry x.listed x.part) y.listed;
        above = ap (λ (fs : List Plain). fs ++ y.entry.above) (forest_none x.entry x.part x.above) ∙ y.above;
        part = edge-raised (zeros p) y.entry.part ∙ y.part;
        quotient = ap (λ (q : List ℕ). graft k q x.entry.quotient y.entry.quotient) (plus-zeros p) ∙ ap (λ (q : Plain). graft k p q y.entry.quotient) x.quotient ∙ ap (graft k p c) y.quotient;
      }

abbrev pub nothing_cut : Plain → Extracted
nothing_cut t = ([], canon t)

abbrev pair_of : List Plain → Plain → Extracted
pair_of fs q = (fs, q)

pub uncut_key : (ty : Types) (t : Plain) → IsIn (nothing_cut t) (keys (extraction_terms ty t))
uncut_key ty t =
    let good = is_extracted ty in
    let w = extraction_bound ty t in
    let u = uncut good w t in
    let key : extracted_entry u.entry ≡ nothing_cut t =
    ap (λ (fs : List Plain). pair_of (canon_forest fs) (canon u.entry.quotient)) (forest_none good w u.entry u.part u.above) ∙ ap (λ (q : Plain). pair_of [] (canon q)) u.quotient in
    let term : IsIn (extracted_entry u.entry, u.entry.coefficient) (map (λ e. (extracted_entry e, e.coefficient)) (extraction_entries ty t)) =
    in_map (λ (e : Entry). (extracted_entry e, e.coefficient)) u.entry (extraction_entries ty t) (close_idle good w t u.entry u.listed u.part) in
    let listed = in_map (λ (x : Extracted × ℕ). x.0) (extracted_entry u.entry, u.entry.coefficient) (map (λ e. (extracted_entry e, e.coefficient)) (extraction_entries ty t)) term in
    subst (λ (k : Extracted). IsIn k (keys (extraction_terms ty t))) key
    (subst (λ (ts : List (Extracted × ℕ)). IsIn (extracted_entry u.entry) (keys ts)) (sym (extraction_by_recursion ty t))
    (in_collected extracted_order extracted_exact (extracted_entry u.entry) (map (λ e. (extracted_entry e, e.coefficient)) (extraction_entries ty t)) listed))

pub uncut_term : (ty : Types) (t : Plain) → (x : Extracted × ℕ) × IsIn x (other_terms ty t) × (x.0 ≡ nothing_cut t)
uncut_term ty t =
    let from = from_map (λ (x : Extracted × ℕ). x.0) (nothing_cut t) (extraction_terms ty t) (uncut_key ty t) in (
      from.0,
      in_filter (λ (x : Extracted × ℕ). not (is_eq (extracted_order x.0 (canon t ∷ [], empty_tree)))) from.0 (extraction_terms ty t) from.1
          (ap (λ (k : Extracted). not (is_eq (extracted_order k (canon t ∷ [], empty_tree)))) from.2),
      from.2,
    )
