-- In a term other than that of the whole tree, the trees of the forest are smaller.
use Rattle.std.proofs.Common.{◌≡◌, ℕ, ◌+◌, ◌-◌, ◌<◌, ◌⊎◌, inl, inr, Bool, true, false, cond, List, [], ◌∷◌, sum, refl, sym, ap, ◌∙◌, subst, arith}
use Rattle.std.specs.List.{AllByRecursion}
use Rattle.std.proofs.lemmas.Bool.{cases_lt}
use Rattle.ordered_lists.specs.Members.{IsIn}
use Rattle.exact_sums.specs.Sums.{total}
use Rattle.exact_sums.specs.Keyed.{keys}
use Rattle.degree_numbers.specs.declared.types.Types.{Types}
use Rattle.degree_numbers.specs.Multi.{minus_of}
use Rattle.degree_numbers.proofs.TypeBounds.{all_weaker}
use Rattle.plain_trees.specs.Plain.{Plain, bare, graft, edge_count_of}
use Rattle.plain_trees.specs.Canon.{canon}
use Rattle.plain_trees.specs.Degree.{HasTypes, empty_tree}
use Rattle.plain_trees.specs.Multinomials.{zeros}
use Rattle.plain_trees.specs.Coproducts.{Extracted, each_direction, is_extracted, canon_forest, extraction_terms}
use Rattle.plain_trees.proofs.Inserts.{canon_count}
use Rattle.tree_cuttings.specs.Roots.{raised, joined, has_edge}
use Rattle.tree_cuttings.specs.Entries.{Entry, forest_of}
use Rattle.cutting_sizes.specs.Bounds.{IsSmaller}
use Rattle.cutting_sizes.specs.Sizes.{node_sum, edge_sum, AddUp}
use Rattle.cutting_sizes.proofs.Additive.{sum-joined}
use Rattle.cutting_sizes.proofs.Counts.{sum-cons, of_node_sums, edges_add_up, nodes_add_up, shifts_beside}
use Rattle.cutting_sizes.proofs.Made.{IsBelow, IsMade, taken, idle, whole, inside, over_idle, over_component, IsClosed}
use Rattle.cutting_sizes.proofs.AddsUp.{no_edge, closed_adds_up}
use Rattle.cutting_sizes.proofs.Excess.{forest_all}
use Rattle.cutting_sizes.proofs.Multiindices.{zeros-five}
use Rattle.cutting_sizes.proofs.TermSums.{canon-sum, all-canon_forest, extraction_entry}
use Rattle.cutting_sizes.proofs.TypesKept.{closed-quotient-types}

-- nothing is left
minus-none : (n a : List ℕ) → IsBelow a n → sum (minus_of n a) ≡ 0 → a ≡ n
minus-none [] [] i z = refl
minus-none [] (x ∷ a) i z = absurd i
minus-none (y ∷ n) [] i z = absurd i
minus-none (y ∷ n) (x ∷ a) i z =
    let most = i.0 in
    let s = sum-cons (y - x) (minus_of n a) in
    let first : x ≡ y = omega (arith, most, s, z) in
    rw (first, minus-none n a i.1 (omega (arith, s, z))) refl

count-raised : (s : List ℕ) (t : Plain) → edge_count_of (raised s t) ≡ edge_count_of t
count-raised s (bare n) = refl
count-raised s (graft k p c t) = omega (arith, count-raised s t)

count-joined : (s t : Plain) → edge_count_of (joined s t) ≡ edge_count_of s + edge_count_of t
count-joined (bare n) t = omega (arith, count-raised n t)
count-joined (graft k p c s) t = omega (arith, count-joined s t)

some_edge : (t : Plain) → has_edge t ≡ true → 0 < edge_count_of t
some_edge (bare n) h = absurd cc
some_edge (graft k p c t) h = omega arith

-- a quotient with nothing left of the tree
whole_taken : (good : Plain → Bool) (w : List ℕ) {b : Bool} {t : Plain} {e : Entry} →
    IsMade good w b t e → b ≡ true → edge_count_of e.quotient ≡ 0 → node_sum e.quotient ≡ 0 →
    e.part ≡ t
whole_taken good w (taken n a i) q z l = ap bare (minus-none n a i l)
whole_taken good w (idle n) q z l = absurd cc
whole_taken good w (whole c) q z l = absurd cc
whole_taken good w (inside {x = x} {y = y} k p m n) q z l =
    let edges = count-joined x.quotient y.quotient in
    let nodes = sum-joined sum (λ k p. 0) (λ s. 0) of_node_sums x.quotient y.quotient in
    let child = whole_taken good w m refl (omega (arith, z, edges)) (omega (arith, l, nodes)) in
    let rest = whole_taken good w n q (omega (arith, z, edges)) (omega (arith, l, nodes)) in
    rw (child, rest) refl
whole_taken good w (over_idle s k p i m n) q z l = absurd (omega (arith, z))
whole_taken good w (over_component s k p i m o g n) q z l = absurd (omega (arith, z))

untouched_alone : (good : Plain → Bool) (w : List ℕ) {b : Bool} {t : Plain} {e : Entry} →
    IsMade good w b t e → b ≡ false → edge_count_of e.quotient ≡ 0 → e.above ≡ []
untouched_alone good w (taken n a i) q z = refl
untouched_alone good w (idle n) q z = refl
untouched_alone good w (whole c) q z = refl
untouched_alone good w (inside k p m n) q z = absurd cc
untouched_alone good w (over_idle s k p i m n) q z = absurd (omega (arith, z))
untouched_alone good w (over_component s k p i m o g n) q z = absurd (omega (arith, z))

sum-none : (m : List ℕ) → sum m ≡ 0 → zeros m ≡ m
sum-none [] h = refl
sum-none (x ∷ m) h = let s = sum-cons x m in let e : 0 ≡ x = omega (arith, s, h) in rw (sum-none m (omega (arith, s, h))) (ap (λ (y : ℕ). y ∷ m) e)

nothing_left : (ty : Types) (q : Plain) → HasTypes ty q → edge_count_of q ≡ 0 → node_sum q ≡ 0 → q ≡ empty_tree
nothing_left ty (bare n) h z l = ap bare (sym (sum-none n l) ∙ zeros-five n h.entries)
nothing_left ty (graft k p c t) h z l = absurd (omega (arith, z))

each_fewer : (n : ℕ) (fs : List Plain) → total edge_count_of fs < n → AllByRecursion (λ f. edge_count_of f < n) fs
each_fewer n [] h = tt
each_fewer n (f ∷ fs) h = (omega (arith, h), each_fewer n fs (omega (arith, h)))

all_smaller : (t : Plain) (fs : List Plain) → total edge_count_of fs < edge_count_of t → AllByRecursion (λ f. IsSmaller f t) fs
all_smaller t fs h = all_weaker (λ f. edge_count_of f < edge_count_of t) (λ f. IsSmaller f t) fs (λ f l. inl l) (each_fewer (edge_count_of t) fs h)

module _ (ty : Types) (j : ℕ) where
  abbrev w : List ℕ
  w = each_direction ty.dims j

  abbrev good : Plain → Bool
  good = is_extracted ty

  -- the whole tree is extracted, or the components are smaller
  abbrev FallsTo : Plain → List Plain → Plain → Type 0
  FallsTo t fs q = ((fs ≡ t ∷ []) × (q ≡ empty_tree)) ⊎ AllByRecursion (λ f. IsSmaller f t) fs

  -- one component, and a quotient without edges
  alone_falls : (t : Plain) (e : Entry) → IsMade good w true t e → HasTypes ty e.quotient →
      AddUp t (e.part ∷ []) e.quotient → edge_count_of e.quotient ≡ 0 → edge_sum e.quotient ≡ 0 →
      FallsTo t (e.part ∷ []) e.quotient
  alone_falls t e m typed up z none =
      let edges = edges_add_up t (e.part ∷ []) e.quotient up in
      let nodes = nodes_add_up t (e.part ∷ []) e.quotient up in
      let shifted = shifts_beside t (e.part ∷ []) e.quotient up in
      elim (cases_lt 0 (node_sum e.quotient)) [
        | inl some ↦ inr (inr (omega (arith, edges, z), omega (arith, nodes, shifted, none, some)), tt)
        | inr l ↦ inl (ap (λ f. f ∷ []) (whole_taken good w m refl z (omega (arith, l))), nothing_left ty e.quotient typed z (omega (arith, l)))
      ]

  edge_sum-none : (q : Plain) → edge_count_of q ≡ 0 → edge_sum q ≡ 0
  edge_sum-none (bare n) z = refl
  edge_sum-none (graft k p c t) z = absurd (omega (arith, z))

  with_above : (t : Plain) (e : Entry) (fs : List Plain) → e.above ≡ fs → IsMade good w true t e →
      HasTypes ty e.quotient → AddUp t (e.part ∷ fs) e.quotient →
      AllByRecursion (λ f. has_edge f ≡ true) (e.part ∷ fs) →
      edge_count_of e.quotient ≡ 0 → FallsTo t (e.part ∷ fs) e.quotient
  with_above t e [] same m typed up edged z = alone_falls t e m typed up z (edge_sum-none e.quotient z)
  with_above t e (g ∷ gs) same m typed up edged z =
      let edges = edges_add_up t (e.part ∷ g ∷ gs) e.quotient up in
      let first = some_edge e.part edged.0 in
      let next = some_edge g edged.1.0 in
      inr (inl (omega (arith, edges, next)), all_smaller t (g ∷ gs) (omega (arith, edges, first)))

  many_edges : (t : Plain) (fs : List Plain) (q : Plain) → AddUp t fs q → 0 < edge_count_of q → FallsTo t fs q
  many_edges t fs q up some = let edges = edges_add_up t fs q up in inr (all_smaller t fs (omega (arith, edges, some)))

  closed_falls : (t : Plain) (e : Entry) → IsClosed good w t e → HasTypes ty t → FallsTo t (forest_of e) e.quotient
  closed_falls t e m typed =
      let up = closed_adds_up good w t e m in
      let edged = forest_all good w (λ f. has_edge f ≡ true) (λ f h g. h) t e m in
      let of_quotient = closed-quotient-types ty good j t e m typed in
      elim (cases_lt 0 (edge_count_of e.quotient)) [
        | inl some ↦ many_edges t (forest_of e) e.quotient up some
        | inr z ↦ no_edges t e m of_quotient up edged (omega (arith, z))
      ]
    where
      no_edges : (t : Plain) (e : Entry) → IsClosed good w t e → HasTypes ty e.quotient → AddUp t (forest_of e) e.quotient → AllByRecursion (λ f. has_edge f ≡ true) (forest_of e) → edge_count_of e.quotient ≡ 0 →
          FallsTo t (forest_of e) e.quotient
      no_edges t e (inl m) typed up edged z =
          let none : forest_of e ≡ [] = ap (λ b. cond b (e.part ∷ e.above) e.above) (no_edge good w m refl) ∙ untouched_alone good w m refl z in
          inr (subst (AllByRecursion (λ f. IsSmaller f t)) (sym none) tt)
      no_edges t e (inr m) typed up edged z =
          let same : forest_of e ≡ e.part ∷ e.above = ap (λ b. cond b (e.part ∷ e.above) e.above) m.1 in
          subst (λ fs. FallsTo t fs e.quotient) (sym same)
          (with_above t e e.above refl m.0 typed (subst (λ fs. AddUp t fs e.quotient) same up) (subst (AllByRecursion (λ f. has_edge f ≡ true)) same edged) z)

canon_smaller : (t f : Plain) → IsSmaller f t → IsSmaller (canon f) t
canon_smaller t f (inl h) = let e = canon_count f in inl (omega (arith, e, h))
canon_smaller t f (inr h) = let e = canon_count f in let n = canon-sum sum (λ k p. 0) f in let u = h.0 in let v = h.1 in inr (omega (arith, e, u), omega (arith, n, v))

abbrev pair_of : List Plain → Plain → Extracted
pair_of fs q = (fs, q)

abbrev IsFalling : Plain → Extracted → Type 0
IsFalling t k = (k ≡ (canon t ∷ [], empty_tree)) ⊎ AllByRecursion (λ f. IsSmaller f t) k.0

key_falls : (t : Plain) (fs : List Plain) (q : Plain) →
    ((fs ≡ t ∷ []) × (q ≡ empty_tree)) ⊎ AllByRecursion (λ f. IsSmaller f t) fs →
    IsFalling t (canon_forest fs, canon q)
key_falls t fs q (inl h) = inl (ap (λ gs. pair_of (canon_forest gs) (canon q)) h.0 ∙ ap (λ u. pair_of (canon t ∷ []) (canon u)) h.1)
key_falls t fs q (inr h) = inr (all-canon_forest (λ f. IsSmaller f t) (canon_smaller t) fs h)

pub term_falls : (ty : Types) (t : Plain) (k : Extracted) → HasTypes ty t →
    IsIn k (keys (extraction_terms ty t)) →
    (k ≡ (canon t ∷ [], empty_tree)) ⊎ AllByRecursion (λ f. IsSmaller f t) k.0
term_falls ty t k typed h =
    let from = extraction_entry ty t k h in
    let e = from.0 in
    subst (IsFalling t) from.1.1 (key_falls t (forest_of e) e.quotient (closed_falls ty _ t e from.1.0 typed))
