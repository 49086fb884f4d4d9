-- What the recentring of a tree that is not too large gives is small.
use Rattle.std.proofs.Common.{◌≡◌, ℕ, ◌+◌, ◌*◌, ◌/◌, ◌<◌, ◌≤◌, ◌⊎◌, inl, inr, Bool, true, false, ◌&&◌, List, [], ◌∷◌, map, flat_map, refl, sym, ap, ◌∙◌, subst, arith, unsigned_abs}
use Rattle.std.proofs.lemmas.Int.{ints}
use Rattle.std.proofs.lemmas.Nat.{mul-le}
use Rattle.std.proofs.Math.Nat.{le_of_mul-le-mul_left, div-le_of_le-mul}
use Rattle.std.specs.List.{AllByRecursion}
use Rattle.std.proofs.lemmas.Bool.{cases_lt}
use Rattle.ordered_lists.specs.Members.{IsIn}
use Rattle.ordered_lists.proofs.Insertion.{all_at_member}
use Rattle.exact_sums.specs.Keyed.{keys}
use Rattle.degree_numbers.proofs.TypeBounds.{all_weaker}
use Rattle.degree_numbers.specs.declared.types.Types.{Types}
use Rattle.degree_numbers.specs.Degree.{degree_plus}
use Rattle.degree_numbers.specs.Multi.{plus_of, minus_of}
use Rattle.degree_numbers.specs.Types.{AreTypes, size_in_units}
use Rattle.plain_trees.specs.Plain.{Plain, bare, graft, edge_count_of, decoration_sum_of}
use Rattle.plain_trees.specs.Multinomials.{below}
use Rattle.plain_trees.specs.Cutting.{shifts}
use Rattle.plain_trees.specs.Degree.{edge_degree_of, degree_of, HasTypes}
use Rattle.plain_trees.specs.Coproducts.{Recentred, each_direction, positive_size, is_above_zero, are_above_zero, recentring_bound, recentring_terms}
use Rattle.tree_cuttings.specs.Entries.{Entry, with_inside, with_outside, pairs}
use Rattle.tree_cuttings.specs.Rooted.{whole_entry, rooted_entries}
use Rattle.tree_cuttings.proofs.Degrees.{size_plus, edge_high, edge_raised, degree_high}
use Rattle.tree_cuttings.proofs.Positive.{all_append, all_mapped, all_flat_map}
use Rattle.tree_cuttings.proofs.Bounds.{all_made}
use Rattle.tree_cuttings.proofs.RootedBounds.{above-joined}
use Rattle.limits.specs.declared.TheConstants.{MOST_EDGES, MOST_LISTED_DECORATIONS}
use Rattle.cutting_sizes.specs.Bounds.{IsBounded, IsFit, HasAtMost, most_shift, most_part}
use Rattle.cutting_sizes.specs.Sizes.{node_sum}
use Rattle.cutting_sizes.proofs.Additive.{sum-raised}
use Rattle.cutting_sizes.proofs.Counts.{decoration_sum-parts, edges_add_up, derivatives_add_up, shifts_below, components_keep, quotient_keeps}
use Rattle.cutting_sizes.proofs.Made.{IsBelow, IsMade, taken_entry, below_is, plus-minus, all_both, rooted_both}
use Rattle.cutting_sizes.proofs.Bounded.{canon_at_most}
use Rattle.cutting_sizes.proofs.TermSums.{recentring_entry}
use Rattle.cutting_sizes.proofs.AddsUp.{alone_adds_up}
use Rattle.cutting_sizes.proofs.DegreeSums.{of_sizes}
use Rattle.cutting_sizes.proofs.TypesKept.{part-types}
use Rattle.cutting_sizes.proofs.Sizes.{node_size, den_some, nodes_least, positive_size_most, above_is}

pub and_both : (a b : Bool) → a && b ≡ true → (a ≡ true) × (b ≡ true)
and_both true b h = (refl, h)
and_both false b h = absurd cc

module _ (ty : Types) where
  -- where the branches of the quotient's root are above 0, the decorations of the root's component
  -- are at most what the degrees above 0 allow
  abbrev pub IsHeld : Plain → Entry → Type 0
  IsHeld t e = are_above_zero ty e.quotient ≡ true → node_size ty e.part ≤ positive_size ty t

  taken_held : (n a : List ℕ) → IsBelow a n → IsHeld (bare n) (taken_entry n a)
  taken_held n a i h = let all = ap (size_in_units ty) (plus-minus n a i) in let parts = size_plus ty a (minus_of n a) in omega (arith, all, parts)

  inside_held : (k : ℕ) (p : List ℕ) (c t : Plain) (x y : Entry) → IsHeld c x → IsHeld t y → IsHeld (graft k p c t) (with_inside k p x y)
  inside_held k p c t x y a b h =
      let both = and_both (are_above_zero ty x.quotient) (are_above_zero ty y.quotient) (sym (above-joined ty x.quotient y.quotient) ∙ h) in
      let u = a both.0 in
      let v = b both.1 in
      omega (arith, u, v)

  outside_held : (s : List ℕ) (k : ℕ) (p : List ℕ) (c t : Plain) (y : Entry) → IsHeld t y → IsHeld (graft k p c t) (with_outside s k p (whole_entry c) y)
  outside_held s k p c t y b h =
      let branch = degree_plus (edge_degree_of ty k (plus_of p s)) (degree_of ty c) in
      let both = and_both (is_above_zero branch) (are_above_zero ty y.quotient) h in
      let high = above_is branch both.0 in
      let v = b both.1 in
      let r = sum-raised (size_in_units ty) (λ k p. 0) (λ s. 0) (of_sizes ty) s y.part in
      let e = edge_raised ty k p s in
      let g = edge_high ty k p in
      let d = degree_high ty c in
      omega (arith, ints, high, v, r, e, g, d)

  pub rooted_held : (w : List ℕ) (t : Plain) → AllByRecursion (IsHeld t) (rooted_entries w t)
  rooted_held w (bare n) = all_mapped (λ a. IsBelow a n) (IsHeld (bare n)) (taken_entry n) (below n) (taken_held n) (below_is n)
  rooted_held w (graft k p c t) =
      all_append (IsHeld (graft k p c t)) (pairs (with_inside k p) (rooted_entries w c) (rooted_entries w t)) (flat_map (λ s. map (with_outside s k p (whole_entry c)) (rooted_entries w t)) (shifts w p))
      (all_made (IsHeld c) (IsHeld t) (IsHeld (graft k p c t)) (with_inside k p) (inside_held k p c t) (rooted_entries w c) (rooted_entries w t) (rooted_held w c) (rooted_held w t))
      (all_flat_map (IsHeld (graft k p c t)) (λ s. map (with_outside s k p (whole_entry c)) (rooted_entries w t)) (shifts w p)
      (λ s. all_mapped (IsHeld t) (IsHeld (graft k p c t)) (with_outside s k p (whole_entry c)) (rooted_entries w t) (λ y b. outside_held s k p c t y b) (rooted_held w t)))

  positive_fit : (t : Plain) → AreTypes ty → IsFit t → positive_size ty t ≤ unsigned_abs ty.units.den * most_shift
  positive_fit t h f =
      let most = positive_size_most ty t h in
      let e = f.edges in
      let d = f.decorations in
      let parts = decoration_sum-parts t in
      let g = mul-le (unsigned_abs ty.units.den) (20 * edge_count_of t + 10 * node_sum t) (unsigned_abs ty.units.den) most_shift (omega arith) (omega (arith, e, d, parts)) in
      omega (arith, most, g)

  pub shifts_fit : (t : Plain) → AreTypes ty → IsFit t → positive_size ty t / unsigned_abs ty.units.den ≤ most_shift
  shifts_fit t h f = div-le_of_le-mul (unsigned_abs ty.units.den) (positive_fit t h f)

  pub fit_small : (j : ℕ) (t : Plain) (e : Entry) → AreTypes ty → HasTypes ty t → IsFit t →
      IsMade (λ f. true) (each_direction ty.dims j) true t e → e.above ≡ [] →
      node_size ty e.part ≤ positive_size ty t →
      HasAtMost most_part e.part × HasAtMost most_part e.quotient
  fit_small j t e h typed fit m alone held =
      let w = each_direction ty.dims j in
      let fs = e.part ∷ [] in
      let up = alone_adds_up (λ f. true) w t e m alone in
      let den = unsigned_abs ty.units.den in
      let least = nodes_least ty e.part h (part-types ty (λ f. true) j m refl typed) in
      let most = positive_size_most ty t h in
      let own = le_of_mul-le-mul_left {m = node_sum e.part} {n = 20 * edge_count_of t + 10 * node_sum t} {k = den} (omega (arith, least, held, most)) (den_some ty h) in
      let some = fit.edges in
      let all_decorations = fit.decorations in
      let of_tree = decoration_sum-parts t in
      let edges = edges_add_up t fs e.quotient up in
      let all = derivatives_add_up t fs e.quotient up in
      let kept = components_keep t fs e.quotient up in
      let shifted = shifts_below t fs e.quotient up in
      let left = quotient_keeps t fs e.quotient up in
      let sums = decoration_sum-parts e.quotient in
      let parts = decoration_sum-parts e.part in (
        record { edges = omega (arith, edges, some); decorations = omega (arith, parts, own, kept, some, all_decorations, of_tree) },
        record { edges = omega (arith, edges, some); decorations = omega (arith, sums, left, all, shifted, own, some, all_decorations, of_tree) },
      )

pub fit_parts : (k : ℕ) (p : List ℕ) (c t : Plain) → IsFit (graft k p c t) → IsFit c × IsFit t
fit_parts k p c t f = let e = f.edges in let d = f.decorations in (record { edges = omega (arith, e); decorations = omega (arith, d) }, record { edges = omega (arith, e); decorations = omega (arith, d) })

pub recentring_small : (ty : Types) (t : Plain) (k : Recentred) → AreTypes ty → HasTypes ty t →
    IsFit t → IsIn k (keys (recentring_terms ty t)) →
    HasAtMost most_part k.0 × HasAtMost most_part k.1
recentring_small ty t k types typed fit h =
    let from = recentring_entry ty t k h in
    let e = from.0 in
    let by = from.1 in
    let w = recentring_bound ty t in
    let held = all_at_member (IsHeld ty t) (rooted_entries w t) e (rooted_held ty w t) by.listed by.branches in
    let small = fit_small ty (positive_size ty t / unsigned_abs ty.units.den) t e types typed fit by.made by.alone held in
    subst (λ (l : Recentred). HasAtMost most_part l.0 × HasAtMost most_part l.1) by.gives (canon_at_most most_part e.part small.0, canon_at_most most_part e.quotient small.1)

pub rooted_small : (ty : Types) (j : ℕ) (t : Plain) → AreTypes ty → HasTypes ty t → IsFit t →
    AllByRecursion (λ e. are_above_zero ty e.quotient ≡ true → HasAtMost most_part e.part × HasAtMost most_part e.quotient) (rooted_entries (each_direction ty.dims j) t)
rooted_small ty j t types typed fit =
    let w = each_direction ty.dims j in
    all_weaker (λ e. (IsMade (λ f. true) w true t e × (e.above ≡ [])) × IsHeld ty t e) (λ e. are_above_zero ty e.quotient ≡ true → HasAtMost most_part e.part × HasAtMost most_part e.quotient) (rooted_entries w t)
    (λ e m above. fit_small ty j t e types typed fit m.0.0 m.0.1 (m.1 above))
    (all_both (λ e. IsMade (λ f. true) w true t e × (e.above ≡ [])) (IsHeld ty t) (rooted_entries w t) (rooted_both (λ f. true) w t) (rooted_held ty w t))

pub fit_bounded : (t : Plain) → IsFit t → IsBounded t
fit_bounded t f = let e = f.edges in let d = f.decorations in let p = decoration_sum-parts t in record { edges = e; derivatives = omega (arith, d, p); decorations = omega (arith, d, p) }

pub fit_not_large : (t : Plain) → IsFit t → (MOST_EDGES < edge_count_of t) ⊎ (MOST_LISTED_DECORATIONS < decoration_sum_of t) → ⊥
fit_not_large t f (inl h) = let e = f.edges in omega (arith, e, h)
fit_not_large t f (inr h) = let d = f.decorations in omega (arith, d, h)

pub not_large_fit : (t : Plain) → ((MOST_EDGES < edge_count_of t) ⊎ (MOST_LISTED_DECORATIONS < decoration_sum_of t) → ⊥) → IsFit t
not_large_fit t h = record { edges = not_less (edge_count_of t) MOST_EDGES (λ l. h (inl l)); decorations = not_less (decoration_sum_of t) MOST_LISTED_DECORATIONS (λ l. h (inr l)) }
  where
    not_less : (n most : ℕ) → (most < n → ⊥) → n ≤ most
    not_less n most h = elim (cases_lt most n) [ inl l ↦ absurd (h l) | inr l ↦ l ]
