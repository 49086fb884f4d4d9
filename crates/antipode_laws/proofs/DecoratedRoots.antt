-- A tree with a decoration at its root has in each term a tree that has one.
use Rattle.std.proofs.Common.{◌≡◌, ℕ, ◌+◌, ◌==◌, inl, inr, Bool, true, false, cond, not, ◌&&◌, ◌||◌, List, [], ◌∷◌, if◌then◌else◌, refl, sym, ap, ◌∙◌, subst, arith}
use Rattle.std.specs.List.{list_any}
use Rattle.std.specs.Ordering.{is_gt}
use Rattle.std.proofs.lemmas.Bool.Decides.{nat_tests}
use Rattle.ordered_lists.specs.Members.{IsIn}
use Rattle.exact_sums.specs.Keyed.{keys}
use Rattle.degree_numbers.specs.declared.types.Types.{Types}
use Rattle.degree_numbers.specs.Multi.{is_zero, plus_of, minus_of}
use Rattle.plain_trees.specs.Plain.{Plain, bare, graft, root_of}
use Rattle.plain_trees.specs.Canon.{Planted, planted_order, with_edge, canon}
use Rattle.plain_trees.specs.Coproducts.{Extracted, extraction_bound, is_extracted, extraction_terms}
use Rattle.tree_cuttings.specs.Roots.{raised, joined}
use Rattle.tree_cuttings.specs.Entries.{Entry, forest_of}
use Rattle.cutting_sizes.proofs.Made.{IsMade, taken, idle, whole, inside, over_idle, over_component, IsClosed, plus-minus}
use Rattle.cutting_sizes.proofs.TermSums.{extraction_entry}
use Rattle.antipode_laws.specs.Inheritance.{has_some, is_decorated}
use Rattle.antipode_laws.proofs.SomeTree.{or_left, some-canon}

and_parts : (a b : Bool) → a && b ≡ true → (a ≡ true) × (b ≡ true)
and_parts true b h = (refl, h)
and_parts false b h = absurd cc

zero_parts : (m n : List ℕ) → is_zero (plus_of m n) ≡ true → (is_zero m ≡ true) × (is_zero n ≡ true)
zero_parts [] n h = (refl, h)
zero_parts (x ∷ m) [] h = (h, refl)
zero_parts (x ∷ m) (y ∷ n) h =
    let parts = and_parts (x + y == 0) (is_zero (plus_of m n)) h in
    let none : x + y ≡ 0 = (let first = parts.0 in grind (arith, nat_tests)) in
    let rest = zero_parts m n parts.1 in
    let left : (x == 0) ≡ true = (let z : x ≡ 0 = omega (arith, none) in ap (λ (i : ℕ). i == 0) z) in
    let right : (y == 0) ≡ true = (let z : y ≡ 0 = omega (arith, none) in ap (λ (i : ℕ). i == 0) z) in
    (rw left rest.0, rw right rest.1)

zero-plus : (m n : List ℕ) → is_zero m ≡ true → is_zero n ≡ true → is_zero (plus_of m n) ≡ true
zero-plus [] n h k = k
zero-plus (x ∷ m) [] h k = h
zero-plus (x ∷ m) (y ∷ n) h k =
    let left = and_parts (x == 0) (is_zero m) h in
    let right = and_parts (y == 0) (is_zero n) k in
    let sum : (x + y == 0) ≡ true = (let a = left.0 in let b = right.0 in grind (arith, nat_tests)) in
    rw sum (zero-plus m n left.1 right.1)

root-raised : (s : List ℕ) (t : Plain) → root_of (raised s t) ≡ plus_of s (root_of t)
root-raised s (bare n) = refl
root-raised s (graft k p c t) = root-raised s t

root-joined : (s t : Plain) → root_of (joined s t) ≡ plus_of (root_of s) (root_of t)
root-joined (bare n) t = root-raised n t
root-joined (graft k p c s) t = root-joined s t

root-with_edge : (e : Planted) (t : Plain) → root_of (with_edge e t) ≡ root_of t
root-with_edge e (bare n) = refl
root-with_edge e (graft k p c t) =
    elim (is_gt (planted_order e record { kind = k; p = p; child = c })) as (λ b. root_of (if b then graft k p c (with_edge e t) else graft e.kind e.p e.child (graft k p c t)) ≡ root_of t) [
      | true ↦ root-with_edge e t
      | false ↦ refl
    ]

root-canon : (t : Plain) → root_of (canon t) ≡ root_of t
root-canon (bare n) = refl
root-canon (graft k p c t) = root-with_edge record { kind = k; p = p; child = canon c } (canon t) ∙ root-canon t

pub decorated-canon : (t : Plain) → is_decorated (canon t) ≡ is_decorated t
decorated-canon t = ap (λ (m : List ℕ). not (is_zero m)) (root-canon t)

module _ (good : Plain → Bool) (w : List ℕ) where
  -- what is left at the root, and what is taken
  root_shared : {b : Bool} {t : Plain} {e : Entry} → IsMade good w b t e →
      is_zero (root_of e.part) ≡ true → is_zero (root_of e.quotient) ≡ true →
      is_zero (root_of t) ≡ true
  root_shared (taken n a i) h k = subst (λ (m : List ℕ). is_zero m ≡ true) (plus-minus n a i) (zero-plus a (minus_of n a) h k)
  root_shared (idle n) h k = k
  root_shared (whole c) h k = k
  root_shared (inside {x = x} {y = y} k p m n) h l =
      let both = zero_parts (root_of x.quotient) (root_of y.quotient) (ap is_zero (sym (root-joined x.quotient y.quotient)) ∙ l) in root_shared n h both.1
  root_shared (over_idle {y = y} s k p i m n) h l = root_shared n (zero_parts s (root_of y.part) (ap is_zero (sym (root-raised s y.part)) ∙ h)).1 l
  root_shared (over_component {y = y} s k p i m o g n) h l = root_shared n (zero_parts s (root_of y.part) (ap is_zero (sym (root-raised s y.part)) ∙ h)).1 l

  root_left : {b : Bool} {t : Plain} {e : Entry} → IsMade good w b t e → b ≡ false → root_of e.quotient ≡ root_of t
  root_left (taken n a i) q = absurd cc
  root_left (idle n) q = refl
  root_left (whole c) q = refl
  root_left (inside k p m n) q = absurd cc
  root_left (over_idle s k p i m n) q = root_left n q
  root_left (over_component s k p i m o g n) q = root_left n q

  one_decorated : (t : Plain) (e : Entry) → IsMade good w true t e → is_decorated t ≡ true →
      (fs : List Plain) → has_some is_decorated (e.part ∷ fs, e.quotient) ≡ true
  one_decorated t e m h fs =
      (elim (is_zero (root_of e.quotient)) as (λ b. is_zero (root_of e.quotient) ≡ b → not b || (is_decorated e.part || list_any is_decorated fs) ≡ true) [
        | true ↦ λ q. (elim (is_zero (root_of e.part)) as (λ b. is_zero (root_of e.part) ≡ b → not b || list_any is_decorated fs ≡ true) [
          | true ↦ λ p. (let none = root_shared m p q in let not_so : false ≡ true = ap not (sym none) ∙ h in absurd cc)
          | false ↦ λ p. refl
        ]) refl
        | false ↦ λ q. refl
      ]) refl

  closed_decorated : (t : Plain) (e : Entry) → IsClosed good w t e → is_decorated t ≡ true → has_some is_decorated (forest_of e, e.quotient) ≡ true
  closed_decorated t e (inl m) h = or_left (is_decorated e.quotient) (list_any is_decorated (forest_of e)) (ap (λ (n : List ℕ). not (is_zero n)) (root_left m refl) ∙ h)
  closed_decorated t e (inr m) h =
      let same : forest_of e ≡ e.part ∷ e.above = ap (λ b. cond b (e.part ∷ e.above) e.above) m.1 in
      subst (λ (fs : List Plain). has_some is_decorated (fs, e.quotient) ≡ true) (sym same) (one_decorated t e m.0 h e.above)

pub decorated_root : (ty : Types) (t : Plain) (k : Extracted) → IsIn k (keys (extraction_terms ty t)) → is_decorated t ≡ true → has_some is_decorated k ≡ true
decorated_root ty t k h d =
    let from = extraction_entry ty t k h in
    subst (λ (l : Extracted). has_some is_decorated l ≡ true) from.1.1
    (some-canon is_decorated decorated-canon (forest_of from.0) from.0.quotient (closed_decorated (is_extracted ty) (extraction_bound ty t) t from.0 from.1.0 d))
