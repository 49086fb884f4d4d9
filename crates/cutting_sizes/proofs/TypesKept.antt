-- What the cuttings of a tree over the types of a file give are trees over these types.
use Rattle.std.proofs.Common.{◌≡◌, ℕ, zero, suc, inl, inr, Bool, true, false, cond, List, [], ◌∷◌, length, drop, refl, sym, ap, ◌∙◌, subst}
use Rattle.std.specs.List.{AllByRecursion}
use Rattle.ordered_lists.specs.Members.{IsIn}
use Rattle.exact_sums.specs.Keyed.{keys}
use Rattle.degree_numbers.specs.declared.types.Types.{Types}
use Rattle.degree_numbers.specs.Multi.{plus_of}
use Rattle.degree_numbers.proofs.TypeBounds.{all_weaker}
use Rattle.plain_trees.specs.Plain.{Plain, bare, graft}
use Rattle.plain_trees.specs.Degree.{IsMultiIndex, IsEdge, HasTypes, empty_tree}
use Rattle.plain_trees.specs.Multinomials.{zeros}
use Rattle.plain_trees.specs.Coproducts.{Extracted, Recentred, each_direction, is_extracted, extraction_terms, recentring_terms}
use Rattle.plain_trees.proofs.DegreeLaws.{canon_types}
use Rattle.tree_cuttings.specs.Roots.{raised, joined, has_edge}
use Rattle.tree_cuttings.specs.Entries.{Entry, forest_of, with_outside, closed_from, good_closed, good_entries}
use Rattle.tree_cuttings.proofs.Positive.{all_append}
use Rattle.tree_cuttings.proofs.Bounds.{all_made}
use Rattle.tree_cuttings.specs.Rooted.{rooted_entries}
use Rattle.cutting_sizes.specs.Bounds.{AreTyped}
use Rattle.cutting_sizes.proofs.Made.{IsShift, IsMade, taken, idle, whole, inside, over_idle, over_component, IsClosed, entries_made, rooted_made, all_both}
use Rattle.cutting_sizes.proofs.AddsUp.{no_edge}
use Rattle.cutting_sizes.proofs.Multiindices.{AreZero, plus-multi, below-multi, minus-multi, zeros-multi, shift-multi, below-zero, minus-zero, zeros-five}
use Rattle.cutting_sizes.proofs.TermSums.{all-canon_forest, extraction_entry, recentring_entry}

abbrev five_zeros : List ℕ
five_zeros = 0 ∷ 0 ∷ 0 ∷ 0 ∷ 0 ∷ []

are_zero : AreZero five_zeros
are_zero = (refl, (refl, (refl, (refl, (refl, tt)))))

abbrev root_or : Plain → List ℕ
root_or (bare n) = n
root_or (graft k p c t) = []

-- cuttings of the empty tree
none_zero : (n : List ℕ) → bare n ≡ empty_tree → n ≡ five_zeros
none_zero n e = ap root_or e

pub empty_part : (good : Plain → Bool) (w : List ℕ) {b : Bool} {t : Plain} {e : Entry} → IsMade good w b t e → b ≡ true → t ≡ empty_tree → e.part ≡ empty_tree
empty_part good w (taken n a i) q e = let z = none_zero n e in ap bare (below-zero a n i (subst AreZero (sym z) are_zero) ∙ z)
empty_part good w (idle n) q e = absurd cc
empty_part good w (whole c) q e = absurd cc
empty_part good w (inside k p m n) q e = absurd cc
empty_part good w (over_idle s k p i m n) q e = absurd cc
empty_part good w (over_component s k p i m o g n) q e = absurd cc

pub empty_quotient : (good : Plain → Bool) (w : List ℕ) {b : Bool} {t : Plain} {e : Entry} → IsMade good w b t e → t ≡ empty_tree → e.quotient ≡ empty_tree
empty_quotient good w (taken n a i) e = let z = none_zero n e in ap bare (minus-zero n a i (subst AreZero (sym z) are_zero) ∙ z)
empty_quotient good w (idle n) e = e
empty_quotient good w (whole c) e = e
empty_quotient good w (inside k p m n) e = absurd cc
empty_quotient good w (over_idle s k p i m n) e = absurd cc
empty_quotient good w (over_component s k p i m o g n) e = absurd cc

module _ (ty : Types) where
  pub raised-types : (s : List ℕ) (t : Plain) → IsMultiIndex ty.dims s → HasTypes ty t → HasTypes ty (raised s t)
  raised-types s (bare n) h k = plus-multi ty.dims s n h k
  raised-types s (graft l p c t) h k = (k.0, k.1, raised-types s t h k.2)

  joined-types : (s t : Plain) → HasTypes ty s → HasTypes ty t → HasTypes ty (joined s t)
  joined-types (bare n) t h k = raised-types n t h k
  joined-types (graft l p c s) t h k = (h.0, h.1, joined-types s t h.2 k)

  module _ (good : Plain → Bool) (j : ℕ) where
    abbrev w : List ℕ
    w = each_direction ty.dims j

    shift-types : (b : Bool) (p s : List ℕ) → IsShift b w p s → IsMultiIndex ty.dims p → IsMultiIndex ty.dims s
    shift-types true p s i h = shift-multi ty.dims j p s i h
    shift-types false p s i h = subst (IsMultiIndex ty.dims) (sym i) (zeros-multi ty.dims p h)

    pub part-types : {b : Bool} {t : Plain} {e : Entry} → IsMade good w b t e → b ≡ true → HasTypes ty t → HasTypes ty e.part
    part-types (taken n a i) q h = below-multi ty.dims a n i h
    part-types (idle n) q h = absurd cc
    part-types (whole c) q h = absurd cc
    part-types (inside k p m n) q h =
        (record { known = h.0.known; decoration = h.0.decoration; noise = λ e. empty_part good w m refl (h.0.noise e) }, part-types m refl h.1, part-types n q h.2)
    part-types (over_idle {b = b} {y = y} s k p i m n) q h = raised-types s y.part (shift-types b p s i h.0.decoration) (part-types n q h.2)
    part-types (over_component {b = b} {y = y} s k p i m o g n) q h = raised-types s y.part (shift-types b p s i h.0.decoration) (part-types n q h.2)

    outside-edge : (b : Bool) (s : List ℕ) (k : ℕ) (p : List ℕ) (c d : Plain) → IsShift b w p s → IsEdge ty k p c → (c ≡ empty_tree → d ≡ empty_tree) → IsEdge ty k (plus_of p s) d
    outside-edge b s k p c d i h same = record { known = h.known; decoration = plus-multi ty.dims p s h.decoration (shift-types b p s i h.decoration); noise = λ e. same (h.noise e) }

    pub quotient-types : {b : Bool} {t : Plain} {e : Entry} → IsMade good w b t e → HasTypes ty t → HasTypes ty e.quotient
    quotient-types (taken n a i) h = minus-multi ty.dims n a i h
    quotient-types (idle n) h = h
    quotient-types (whole c) h = h
    quotient-types (inside {x = x} {y = y} k p m n) h = joined-types x.quotient y.quotient (quotient-types m h.1) (quotient-types n h.2)
    quotient-types (over_idle {b = b} {c = c} {x = x} s k p i m n) h = (outside-edge b s k p c x.quotient i h.0 (empty_quotient good w m), quotient-types m h.1, quotient-types n h.2)
    quotient-types (over_component {b = b} {c = c} {x = x} s k p i m o g n) h = (outside-edge b s k p c x.quotient i h.0 (empty_quotient good w m), quotient-types m h.1, quotient-types n h.2)

    abbrev AreAll : List Plain → Type 0
    AreAll = AllByRecursion (HasTypes ty)

    forest-idle-types : {c : Plain} (x : Entry) → IsMade good w false c x → AreAll x.above → AreAll (forest_of x)
    forest-idle-types x m h = subst (λ b. AreAll (cond b (x.part ∷ x.above) x.above)) (sym (no_edge good w m refl)) h

    forest-with-types : (x : Entry) → has_edge x.part ≡ true → HasTypes ty x.part → AreAll x.above → AreAll (forest_of x)
    forest-with-types x e k h = subst (λ b. AreAll (cond b (x.part ∷ x.above) x.above)) (sym e) (k, h)

    pub above-types : {b : Bool} {t : Plain} {e : Entry} → IsMade good w b t e → HasTypes ty t → AreAll e.above
    above-types (taken n a i) h = tt
    above-types (idle n) h = tt
    above-types (whole c) h = tt
    above-types (inside {x = x} {y = y} k p m n) h = all_append (HasTypes ty) x.above y.above (above-types m h.1) (above-types n h.2)
    above-types (over_idle {x = x} {y = y} s k p i m n) h = all_append (HasTypes ty) (forest_of x) y.above (forest-idle-types x m (above-types m h.1)) (above-types n h.2)
    above-types (over_component {x = x} {y = y} s k p i m o g n) h =
        all_append (HasTypes ty) (forest_of x) y.above (forest-with-types x o (part-types m refl h.1) (above-types m h.1)) (above-types n h.2)

    pub forest-types : (t : Plain) (e : Entry) → IsClosed good w t e → HasTypes ty t → AreAll (forest_of e)
    forest-types t e (inl m) h = forest-idle-types e m (above-types m h)
    forest-types t e (inr m) h = forest-with-types e m.1 (part-types m.0 refl h) (above-types m.0 h)

    pub closed-quotient-types : (t : Plain) (e : Entry) → IsClosed good w t e → HasTypes ty t → HasTypes ty e.quotient
    closed-quotient-types t e (inl m) h = quotient-types m h
    closed-quotient-types t e (inr m) h = quotient-types m.0 h

  -- the root's component where the root is not touched
  idle-outside : (k : ℕ) (p : List ℕ) (x y : Entry) → length p ≡ 5 → y.part ≡ empty_tree → (with_outside (zeros p) k p x y).part ≡ empty_tree
  idle-outside k p x y five e = rw (e, zeros-five p five) refl

  pub idle_parts : (good : Plain → Bool) (v : List ℕ) (t : Plain) → HasTypes ty t →
      AllByRecursion (λ (e : Entry). e.part ≡ empty_tree) (good_entries good v false t)
  idle_parts good v (bare n) h = (ap bare (zeros-five n h.entries), tt)
  idle_parts good v (graft k p c t) h =
      let five = h.0.decoration.entries in
      let closed = good_closed good (closed_from (good_entries good v false c) (good_entries good v true c)) in
      all_made (λ x. Unit {0}) (λ (e : Entry). e.part ≡ empty_tree) (λ (e : Entry). e.part ≡ empty_tree) (with_outside (zeros p) k p) (λ x y m n. idle-outside k p x y five n) closed
      (good_entries good v false t) (all_true closed) (idle_parts good v t h.2)
    where
      all_true : (xs : List Entry) → AllByRecursion (λ x. Unit {0}) xs
      all_true [] = tt
      all_true (x ∷ xs) = (tt, all_true xs)

  pub extraction_types : (t : Plain) (k : Extracted) → HasTypes ty t →
      IsIn k (keys (extraction_terms ty t)) → AllByRecursion (HasTypes ty) k.0 × HasTypes ty k.1
  extraction_types t k types h =
      let from = extraction_entry ty t k h in
      let e = from.0 in
      subst (λ (l : Extracted). AllByRecursion (HasTypes ty) l.0 × HasTypes ty l.1) from.1.1
      (all-canon_forest (HasTypes ty) (canon_types ty) (forest_of e) (forest-types (is_extracted ty) _ t e from.1.0 types), canon_types ty e.quotient (closed-quotient-types (is_extracted ty) _ t e from.1.0 types))

  pub recentring_types : (t : Plain) (k : Recentred) → HasTypes ty t → IsIn k (keys (recentring_terms ty t)) → HasTypes ty k.0 × HasTypes ty k.1
  recentring_types t k types h =
      let from = recentring_entry ty t k h in
      let e = from.0 in
      subst (λ (l : Recentred). HasTypes ty l.0 × HasTypes ty l.1) from.1.gives
      (canon_types ty e.part (part-types (λ f. true) _ from.1.made refl types), canon_types ty e.quotient (quotient-types (λ f. true) _ from.1.made types))

  pub entries_typed : (good : Plain → Bool) (j : ℕ) (t : Plain) → HasTypes ty t →
      AllByRecursion (AreTyped ty) (good_entries good (each_direction ty.dims j) true t)
  entries_typed good j t h =
      all_weaker (IsMade good (each_direction ty.dims j) true t) (AreTyped ty) (good_entries good (each_direction ty.dims j) true t)
      (λ e m. record { above = above-types good j m h; part = part-types good j m refl h; quotient = quotient-types good j m h }) (entries_made good (each_direction ty.dims j) true t)

  pub empty-types : (p : Plain) → p ≡ empty_tree → HasTypes ty p
  empty-types p e = subst (HasTypes ty) (sym e) record { entries = refl; rest = all_zero ty.dims five_zeros are_zero }
    where
      all_zero : (d : ℕ) (m : List ℕ) → AreZero m → AreZero (drop d m)
      all_zero zero m h = h
      all_zero (suc d) [] h = tt
      all_zero (suc d) (x ∷ m) h = all_zero d m h.1

  pub idle_typed : (good : Plain → Bool) (j : ℕ) (t : Plain) → HasTypes ty t →
      AllByRecursion (AreTyped ty) (good_entries good (each_direction ty.dims j) false t)
  idle_typed good j t h =
      let v = each_direction ty.dims j in
      all_weaker (λ e. IsMade good v false t e × (e.part ≡ empty_tree)) (AreTyped ty) (good_entries good v false t)
      (λ e m. record { above = above-types good j m.0 h; part = empty-types e.part m.1; quotient = quotient-types good j m.0 h })
      (all_both (IsMade good v false t) (λ (e : Entry). e.part ≡ empty_tree) (good_entries good v false t) (entries_made good v false t) (idle_parts good v t h))

  pub rooted_typed : (j : ℕ) (t : Plain) → HasTypes ty t → AllByRecursion (AreTyped ty) (rooted_entries (each_direction ty.dims j) t)
  rooted_typed j t h =
      all_weaker (IsMade (λ f. true) (each_direction ty.dims j) true t) (AreTyped ty) (rooted_entries (each_direction ty.dims j) t)
      (λ e m. record { above = above-types (λ f. true) j m h; part = part-types (λ f. true) j m refl h; quotient = quotient-types (λ f. true) j m h }) (rooted_made (λ f. true) (each_direction ty.dims j) t)
