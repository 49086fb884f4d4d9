-- The decorations of a component are at most its excess.
use Rattle.std.proofs.Common.{◌≡◌, ℕ, ◌+◌, pos, neg_ℤ, ◌+ℤ◌, ◌≤ℤ◌, inl, inr, Bool, true, false, cond, List, ◌∷◌, refl, sym, subst, arith}
use Rattle.std.proofs.lemmas.Int.{ints, clamps}
use Rattle.std.specs.List.{AllByRecursion}
use Rattle.degree_numbers.specs.declared.types.Types.{Types}
use Rattle.degree_numbers.specs.Types.{size_in_units}
use Rattle.degree_numbers.proofs.TypeBounds.{all_weaker}
use Rattle.plain_trees.specs.Plain.{Plain, bare, graft}
use Rattle.plain_trees.specs.Degree.{degree_of}
use Rattle.plain_trees.specs.Coproducts.{negative_size}
use Rattle.tree_cuttings.specs.Roots.{raised, has_edge}
use Rattle.tree_cuttings.specs.Entries.{Entry, forest_of, good_entries}
use Rattle.tree_cuttings.proofs.Degrees.{degree_raised, edge_low}
use Rattle.tree_cuttings.proofs.Positive.{all_append}
use Rattle.cutting_sizes.specs.Lows.{low, lowest}
use Rattle.cutting_sizes.proofs.Lows.{low_most, low_inside, low_outside}
use Rattle.cutting_sizes.proofs.Additive.{sum-raised}
use Rattle.cutting_sizes.proofs.Made.{IsMade, taken, idle, whole, inside, over_idle, over_component, IsClosed, entries_made}
use Rattle.cutting_sizes.proofs.AddsUp.{no_edge}
use Rattle.cutting_sizes.proofs.DegreeSums.{of_sizes}
use Rattle.cutting_sizes.proofs.Sizes.{node_size}

module _ (ty : Types) (good : Plain → Bool) (w : List ℕ) where
  abbrev size-raised : (s : List ℕ) (t : Plain) → node_size ty (raised s t) ≡ size_in_units ty s + node_size ty t
  size-raised = sum-raised (size_in_units ty) (λ k p. 0) (λ s. 0) (of_sizes ty)

  pub above_low : {b : Bool} {t : Plain} {e : Entry} → IsMade good w b t e → (low ty t +ℤ pos (node_size ty e.part)) ≤ℤ (degree_of ty e.part).a
  above_low (taken n a i) = omega (arith, ints)
  above_low (idle n) = omega (arith, ints)
  above_low (whole c) = let l = low_most ty c in omega (arith, ints, l)
  above_low (inside {c = c} {t = t} k p m n) = let l = low_inside ty k p c t in let u = above_low m in let v = above_low n in omega (arith, ints, l, u, v)
  above_low (over_idle {c = c} {t = t} {y = y} s k p i m n) =
      let l = low_outside ty k p c t in
      let v = above_low n in
      let d = degree_raised ty s y.part in
      let r = size-raised s y.part in
      omega (arith, ints, l, v, d, r)
  above_low (over_component {c = c} {t = t} {y = y} s k p i m o g n) =
      let l = low_outside ty k p c t in
      let v = above_low n in
      let d = degree_raised ty s y.part in
      let r = size-raised s y.part in
      omega (arith, ints, l, v, d, r)

pub entries_low : (ty : Types) (good : Plain → Bool) (w : List ℕ) (touched : Bool) (t : Plain) →
    AllByRecursion (λ (e : Entry). low ty t ≤ℤ (degree_of ty e.part).a) (good_entries good w touched t)
entries_low ty good w touched t =
    all_weaker (IsMade good w touched t) (λ (e : Entry). low ty t ≤ℤ (degree_of ty e.part).a) (good_entries good w touched t)
    (λ e m. let l = above_low ty good w m in omega (arith, ints, l)) (entries_made good w touched t)

-- the components that do not hold the root have an edge and have passed the test
module _ (good : Plain → Bool) (w : List ℕ) (P : Plain → Type 0) (closing : (f : Plain) → has_edge f ≡ true → good f ≡ true → P f) where
  abbrev AreAll : List Plain → Type 0
  AreAll = AllByRecursion P

  forest_idle : {c : Plain} (x : Entry) → IsMade good w false c x → AreAll x.above → AreAll (forest_of x)
  forest_idle x m h = subst (λ b. AreAll (cond b (x.part ∷ x.above) x.above)) (sym (no_edge good w m refl)) h

  forest_with : (x : Entry) → has_edge x.part ≡ true → good x.part ≡ true → AreAll x.above → AreAll (forest_of x)
  forest_with x e g h = subst (λ b. AreAll (cond b (x.part ∷ x.above) x.above)) (sym e) (closing x.part e g, h)

  pub above_all : {b : Bool} {t : Plain} {e : Entry} → IsMade good w b t e → AreAll e.above
  above_all (taken n a i) = tt
  above_all (idle n) = tt
  above_all (whole c) = tt
  above_all (inside {x = x} {y = y} k p m n) = all_append P x.above y.above (above_all m) (above_all n)
  above_all (over_idle {x = x} {y = y} s k p i m n) = all_append P (forest_of x) y.above (forest_idle x m (above_all m)) (above_all n)
  above_all (over_component {x = x} {y = y} s k p i m o g n) = all_append P (forest_of x) y.above (forest_with x o g (above_all m)) (above_all n)

  pub forest_all : (t : Plain) (e : Entry) → IsClosed good w t e → AreAll (forest_of e)
  forest_all t e (inl m) = forest_idle e m (above_all m)
  forest_all t e (inr m) = forest_with e m.1 m.2 (above_all m.0)

-- no subtree is lower than the negative edges of the tree make it
pub low_least : (ty : Types) (t : Plain) → neg_ℤ (pos (negative_size ty t)) ≤ℤ low ty t
low_least ty (bare n) = omega (arith, ints)
low_least ty (graft k p c t) = let e = edge_low ty k p in let a = low_least ty c in let b = low_least ty t in omega (arith, ints, clamps, e, a, b)

pub lowest_least : (ty : Types) (t : Plain) → neg_ℤ (pos (negative_size ty t)) ≤ℤ lowest ty t
lowest_least ty (bare n) = omega (arith, ints)
lowest_least ty (graft k p c t) = let l = low_least ty (graft k p c t) in let a = lowest_least ty c in let b = lowest_least ty t in omega (arith, ints, clamps, l, a, b)
