-- A tree with an edge whose kernel integrates what stands above it to 0 has in each term a tree
-- with such an edge.
use Rattle.std.proofs.Common.{◌≡◌, ℕ, ◌*◌, ◌≤◌, ◌⊎◌, inl, inr, Bool, true, false, cond, ◌||◌, List, [], ◌∷◌, ◌++◌, if◌then◌else◌, refl, sym, ap, ◌∙◌, subst, arith, Option, Some, None}
use Rattle.std.specs.List.{list_any}
use Rattle.std.specs.Ordering.{is_gt}
use Rattle.std.proofs.lemmas.Bool.Decides.{nat_tests}
use Rattle.std.proofs.lemmas.List.Folds.{list_any-append}
use Rattle.ordered_lists.specs.Members.{IsIn}
use Rattle.exact_sums.specs.Keyed.{keys}
use Rattle.degree_numbers.specs.declared.types.Types.{Types}
use Rattle.degree_numbers.specs.Multi.{scaled_size, plus_of}
use Rattle.degree_numbers.specs.Types.{moments_of}
use Rattle.plain_trees.specs.Plain.{Plain, bare, graft}
use Rattle.plain_trees.specs.Canon.{Planted, planted_order, with_edge, canon}
use Rattle.plain_trees.specs.Coproducts.{Extracted, extraction_bound, is_extracted, extraction_terms}
use Rattle.gaussian_pairings.specs.Vanishing.{is_within, has_integrated}
use Rattle.tree_cuttings.specs.Roots.{raised, joined, has_edge}
use Rattle.tree_cuttings.specs.Entries.{Entry, forest_of}
use Rattle.cutting_sizes.proofs.Made.{IsBelow, IsMade, taken, idle, whole, inside, over_idle, over_component, IsClosed}
use Rattle.cutting_sizes.proofs.AddsUp.{no_edge}
use Rattle.cutting_sizes.proofs.TermSums.{extraction_entry}
use Rattle.antipode_laws.specs.Inheritance.{has_some}
use Rattle.antipode_laws.proofs.TreeSymbols.{or_swap}
use Rattle.antipode_laws.proofs.SomeTree.{or_cases, or_left, or_right, some-canon}

size_below : (ss a n : List ℕ) → IsBelow a n → scaled_size ss a ≤ scaled_size ss n
size_below [] a n i = omega arith
size_below (s ∷ ss) [] [] i = omega arith
size_below (s ∷ ss) [] (y ∷ n) i = absurd i
size_below (s ∷ ss) (x ∷ a) [] i = absurd i
size_below (s ∷ ss) (x ∷ a) (y ∷ n) i = let most = times_most s x y i.0 in let rest = size_below ss a n i.1 in omega (arith, most, rest)
  where
    times_most : (s x y : ℕ) → x ≤ y → s * x ≤ s * y
    times_most s x y h = grind (arith)

module _ (ty : Types) where
  within-graft : (m : Option ℕ) (k : ℕ) (p : List ℕ) (c t : Plain) → is_within ty m (graft k p c t) ≡ false
  within-graft None k p c t = refl
  within-graft (Some r) k p c t = refl

  within-with_edge : (m : Option ℕ) (e : Planted) (t : Plain) → is_within ty m (with_edge e t) ≡ false
  within-with_edge m e (bare n) = within-graft m e.kind e.p e.child (bare n)
  within-with_edge m e (graft k p c t) =
      elim (is_gt (planted_order e record { kind = k; p = p; child = c })) as (λ b. is_within ty m (if b then graft k p c (with_edge e t) else graft e.kind e.p e.child (graft k p c t)) ≡ false) [
        | true ↦ within-graft m k p c (with_edge e t)
        | false ↦ within-graft m e.kind e.p e.child (graft k p c t)
      ]

  within-canon : (m : Option ℕ) (t : Plain) → is_within ty m (canon t) ≡ is_within ty m t
  within-canon m (bare n) = refl
  within-canon m (graft k p c t) = within-with_edge m record { kind = k; p = p; child = canon c } (canon t) ∙ sym (within-graft m k p c t)

  abbrev at_edge : ℕ → Plain → Bool
  at_edge k c = is_within ty (moments_of ty k) c || has_integrated ty c

  integrated-with_edge : (e : Planted) (t : Plain) → has_integrated ty (with_edge e t) ≡ at_edge e.kind e.child || has_integrated ty t
  integrated-with_edge e (bare n) = refl
  integrated-with_edge e (graft k p c t) =
      elim (is_gt (planted_order e record { kind = k; p = p; child = c })) as
      (λ b. has_integrated ty (if b then graft k p c (with_edge e t) else graft e.kind e.p e.child (graft k p c t)) ≡ at_edge e.kind e.child || (at_edge k c || has_integrated ty t)) [
        | true ↦ ap (λ b. at_edge k c || b) (integrated-with_edge e t) ∙ or_swap (at_edge k c) (at_edge e.kind e.child) (has_integrated ty t)
        | false ↦ refl
      ]

  pub integrated-canon : (t : Plain) → has_integrated ty (canon t) ≡ has_integrated ty t
  integrated-canon (bare n) = refl
  integrated-canon (graft k p c t) =
      integrated-with_edge record { kind = k; p = p; child = canon c } (canon t)
      ∙ ap (λ b. (b || has_integrated ty (canon c)) || has_integrated ty (canon t)) (within-canon (moments_of ty k) c)
      ∙ ap (λ b. (is_within ty (moments_of ty k) c || b) || has_integrated ty (canon t)) (integrated-canon c)
      ∙ ap (λ b. at_edge k c || b) (integrated-canon t)

  integrated-raised : (s : List ℕ) (t : Plain) → has_integrated ty (raised s t) ≡ has_integrated ty t
  integrated-raised s (bare n) = refl
  integrated-raised s (graft k p c t) = ap (λ b. at_edge k c || b) (integrated-raised s t)

  joined_left : (s t : Plain) → has_integrated ty s ≡ true → has_integrated ty (joined s t) ≡ true
  joined_left (bare n) t h = absurd cc
  joined_left (graft k p c s) t h = elim (or_cases (at_edge k c) (has_integrated ty s) h) [ inl e ↦ or_left (at_edge k c) (has_integrated ty (joined s t)) e | inr r ↦ or_right (at_edge k c) (has_integrated ty (joined s t)) (joined_left s t r) ]

  joined_right : (s t : Plain) → has_integrated ty t ≡ true → has_integrated ty (joined s t) ≡ true
  joined_right (bare n) t h = integrated-raised n t ∙ h
  joined_right (graft k p c s) t h = or_right (at_edge k c) (has_integrated ty (joined s t)) (joined_right s t h)

  -- the edge itself, above it, beside it
  here : (k : ℕ) (p : List ℕ) (c t : Plain) → is_within ty (moments_of ty k) c ≡ true → has_integrated ty (graft k p c t) ≡ true
  here k p c t h = or_left (at_edge k c) (has_integrated ty t) (or_left (is_within ty (moments_of ty k) c) (has_integrated ty c) h)

  above_it : (k : ℕ) (p : List ℕ) (c t : Plain) → has_integrated ty c ≡ true → has_integrated ty (graft k p c t) ≡ true
  above_it k p c t h = or_left (at_edge k c) (has_integrated ty t) (or_right (is_within ty (moments_of ty k) c) (has_integrated ty c) h)

  beside : (k : ℕ) (p : List ℕ) (c t : Plain) → has_integrated ty t ≡ true → has_integrated ty (graft k p c t) ≡ true
  beside k p c t h = or_right (at_edge k c) (has_integrated ty t) h

  module _ (good : Plain → Bool) (w : List ℕ) where
    less_taken : (m : Option ℕ) (n a : List ℕ) → IsBelow a n → is_within ty m (bare n) ≡ true → is_within ty m (bare a) ≡ true
    less_taken None n a i h = h
    less_taken (Some r) n a i h = let most = size_below ty.scaling a n i in grind (arith, nat_tests)

    not_within : (m : Option ℕ) (k : ℕ) (p : List ℕ) (c t : Plain) → is_within ty m (graft k p c t) ≡ true → ⊥
    not_within m k p c t h = let no = within-graft m k p c t in absurd cc

    within_part : (m : Option ℕ) {b : Bool} {t : Plain} {e : Entry} → IsMade good w b t e → b ≡ true → is_within ty m t ≡ true → (is_within ty m e.part ≡ true) × (has_edge e.part ≡ false)
    within_part m (taken n a i) q h = (less_taken m n a i h, refl)
    within_part m (idle n) q h = absurd cc
    within_part m (whole c) q h = absurd cc
    within_part m (inside {c = c} {t = t} k p n o) q h = absurd (not_within m k p c t h)
    within_part m (over_idle {c = c} {t = t} s k p i n o) q h = absurd (not_within m k p c t h)
    within_part m (over_component {c = c} {t = t} s k p i n o g u) q h = absurd (not_within m k p c t h)

    within_left : (m : Option ℕ) {b : Bool} {t : Plain} {e : Entry} → IsMade good w b t e → b ≡ false → is_within ty m t ≡ true → is_within ty m e.quotient ≡ true
    within_left m (taken n a i) q h = absurd cc
    within_left m (idle n) q h = h
    within_left m (whole c) q h = h
    within_left m (inside {c = c} {t = t} k p n o) q h = absurd cc
    within_left m (over_idle {c = c} {t = t} s k p i n o) q h = absurd (not_within m k p c t h)
    within_left m (over_component {c = c} {t = t} s k p i n o g u) q h = absurd (not_within m k p c t h)

    abbrev I : Plain → Bool
    I = has_integrated ty

    abbrev Found : Plain → Plain → List Plain → Type 0
    Found part quotient above = (I part ≡ true) ⊎ ((I quotient ≡ true) ⊎ (list_any I above ≡ true))

    edgeless : (t : Plain) → has_edge t ≡ false → I t ≡ true → ⊥
    edgeless (bare n) h i = absurd cc
    edgeless (graft k p c t) h i = absurd cc

    any_first : (fs gs : List Plain) → list_any I fs ≡ true → list_any I (fs ++ gs) ≡ true
    any_first fs gs h = list_any-append I fs gs ∙ or_left (list_any I fs) (list_any I gs) h

    any_second : (fs gs : List Plain) → list_any I gs ≡ true → list_any I (fs ++ gs) ≡ true
    any_second fs gs h = list_any-append I fs gs ∙ or_right (list_any I fs) (list_any I gs) h

    -- one more edge in the set
    found_inside : (k : ℕ) (p : List ℕ) (c : Plain) (x y : Entry) → Found x.part x.quotient x.above → Found (graft k p x.part y.part) (joined x.quotient y.quotient) (x.above ++ y.above)
    found_inside k p c x y (inl h) = inl (above_it k p x.part y.part h)
    found_inside k p c x y (inr (inl h)) = inr (inl (joined_left x.quotient y.quotient h))
    found_inside k p c x y (inr (inr h)) = inr (inr (any_first x.above y.above h))

    found_rest : (k : ℕ) (p : List ℕ) (x y : Entry) → Found y.part y.quotient y.above → Found (graft k p x.part y.part) (joined x.quotient y.quotient) (x.above ++ y.above)
    found_rest k p x y (inl h) = inl (beside k p x.part y.part h)
    found_rest k p x y (inr (inl h)) = inr (inl (joined_right x.quotient y.quotient h))
    found_rest k p x y (inr (inr h)) = inr (inr (any_second x.above y.above h))

    -- one more edge outside the set
    found_outside : (s : List ℕ) (k : ℕ) (p : List ℕ) (x y : Entry) (fs : List Plain) → (I x.quotient ≡ true) ⊎ (list_any I fs ≡ true) → Found (raised s y.part) (graft k (plus_of p s) x.quotient y.quotient) (fs ++ y.above)
    found_outside s k p x y fs (inl h) = inr (inl (above_it k (plus_of p s) x.quotient y.quotient h))
    found_outside s k p x y fs (inr h) = inr (inr (any_first fs y.above h))

    found_beside : (s : List ℕ) (k : ℕ) (p : List ℕ) (x y : Entry) (fs : List Plain) → Found y.part y.quotient y.above → Found (raised s y.part) (graft k (plus_of p s) x.quotient y.quotient) (fs ++ y.above)
    found_beside s k p x y fs (inl h) = inl (integrated-raised s y.part ∙ h)
    found_beside s k p x y fs (inr (inl h)) = inr (inl (beside k (plus_of p s) x.quotient y.quotient h))
    found_beside s k p x y fs (inr (inr h)) = inr (inr (any_second fs y.above h))

    -- a child whose root is not touched
    idle_found : (x : Entry) → has_edge x.part ≡ false → Found x.part x.quotient x.above → (I x.quotient ≡ true) ⊎ (list_any I (forest_of x) ≡ true)
    idle_found x e (inl h) = absurd (edgeless x.part e h)
    idle_found x e (inr (inl h)) = inl h
    idle_found x e (inr (inr h)) = inr (let same : forest_of x ≡ x.above = ap (λ b. cond b (x.part ∷ x.above) x.above) e in ap (list_any I) same ∙ h)

    component_found : (x : Entry) → has_edge x.part ≡ true → Found x.part x.quotient x.above → (I x.quotient ≡ true) ⊎ (list_any I (forest_of x) ≡ true)
    component_found x e h =
        let same : forest_of x ≡ x.part ∷ x.above = ap (λ b. cond b (x.part ∷ x.above) x.above) e in
        elim h [
          | inl part ↦ inr (ap (list_any I) same ∙ or_left (I x.part) (list_any I x.above) part)
          | inr (inl quotient) ↦ inl quotient
          | inr (inr above) ↦ inr (ap (list_any I) same ∙ or_right (I x.part) (list_any I x.above) above)
        ]

    edge_cases : (k : ℕ) (p : List ℕ) (c t : Plain) → I (graft k p c t) ≡ true → (is_within ty (moments_of ty k) c ≡ true) ⊎ ((I c ≡ true) ⊎ (I t ≡ true))
    edge_cases k p c t h =
        elim (or_cases (at_edge k c) (I t) h) [
          | inl e ↦ elim (or_cases (is_within ty (moments_of ty k) c) (I c) e) [ inl f ↦ inl f | inr f ↦ inr (inl f) ]
          | inr e ↦ inr (inr e)
        ]

    found : {b : Bool} {t : Plain} {e : Entry} → IsMade good w b t e → I t ≡ true → Found e.part e.quotient e.above
    found (taken n a i) h = absurd cc
    found (idle n) h = absurd cc
    found (whole c) h = inr (inl h)
    found (inside {c = c} {t = t} {x = x} {y = y} k p m n) h =
        elim (edge_cases k p c t h) [
          | inl e ↦ inl (here k p x.part y.part (within_part (moments_of ty k) m refl e).0)
          | inr (inl e) ↦ found_inside k p c x y (found m e)
          | inr (inr e) ↦ found_rest k p x y (found n e)
        ]
    found (over_idle {c = c} {t = t} {x = x} {y = y} s k p i m n) h =
        elim (edge_cases k p c t h) [
          | inl e ↦ inr (inl (here k (plus_of p s) x.quotient y.quotient (within_left (moments_of ty k) m refl e)))
          | inr (inl e) ↦ found_outside s k p x y (forest_of x) (idle_found x (no_edge good w m refl) (found m e))
          | inr (inr e) ↦ found_beside s k p x y (forest_of x) (found n e)
        ]
    found (over_component {c = c} {t = t} {x = x} {y = y} s k p i m o g n) h =
        elim (edge_cases k p c t h) [
          | inl e ↦ (let none = (within_part (moments_of ty k) m refl e).1 in absurd cc)
          | inr (inl e) ↦ found_outside s k p x y (forest_of x) (component_found x o (found m e))
          | inr (inr e) ↦ found_beside s k p x y (forest_of x) (found n e)
        ]

    found_some : (e : Entry) → (I e.quotient ≡ true) ⊎ (list_any I (forest_of e) ≡ true) → has_some I (forest_of e, e.quotient) ≡ true
    found_some e (inl h) = or_left (I e.quotient) (list_any I (forest_of e)) h
    found_some e (inr h) = or_right (I e.quotient) (list_any I (forest_of e)) h

    closed_integrated : (t : Plain) (e : Entry) → IsClosed good w t e → I t ≡ true → has_some I (forest_of e, e.quotient) ≡ true
    closed_integrated t e (inl m) h = found_some e (idle_found e (no_edge good w m refl) (found m h))
    closed_integrated t e (inr m) h = found_some e (component_found e m.1 (found m.0 h))

pub integrated_edge : (ty : Types) (t : Plain) (k : Extracted) →
    IsIn k (keys (extraction_terms ty t)) → has_integrated ty t ≡ true →
    has_some (has_integrated ty) k ≡ true
integrated_edge ty t k h d =
    let from = extraction_entry ty t k h in
    subst (λ (l : Extracted). has_some (has_integrated ty) l ≡ true) from.1.1
    (some-canon (has_integrated ty) (integrated-canon ty) (forest_of from.0) from.0.quotient (closed_integrated ty (is_extracted ty) (extraction_bound ty t) t from.0 from.1.0 d))
