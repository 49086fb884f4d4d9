-- The sums of the coefficients of the entries of a tree are within the bounds.
use Rattle.std.proofs.Common.{◌≡◌, ℕ, ◌+◌, ◌-◌, ◌*◌, ◌/◌, ◌^◌, ◌≤◌, ◌<◌, pos, neg_ℤ, ◌≤ℤ◌, unsigned_abs, Bool, true, false, not, ◌||◌, List, [], ◌∷◌, map, flat_map, filter, sum, refl, ap, arith}
use Rattle.std.specs.List.{AllByRecursion}
use Rattle.std.proofs.lemmas.Bool.{ltb-true}
use Rattle.exact_sums.specs.Saturating.{overflow}
use Rattle.std.proofs.lemmas.Int.{ints, clamps}
use Rattle.std.proofs.lemmas.Nat.{mul-le, le-div}
use Rattle.std.proofs.Math.Nat.{pow-le-pow_left, pow-le-pow_right}
use Rattle.exact_sums.specs.Sums.{total, counted_if}
use Rattle.exact_sums.proofs.SumLaws.{total-append, total-map, total-filter}
use Rattle.degree_numbers.specs.declared.types.Types.{Types}
use Rattle.degree_numbers.specs.Types.{AreTypes, size_in_units}
use Rattle.degree_numbers.specs.Multi.{is_zero, plus_of, IsMultiIndex}
use Rattle.degree_numbers.proofs.TypeBounds.{all_weaker}
use Rattle.plain_trees.specs.Plain.{Plain, bare, graft, root_of}
use Rattle.plain_trees.specs.Degree.{HasTypes}
use Rattle.plain_trees.specs.Multinomials.{below, zeros, choose}
use Rattle.plain_trees.specs.Cutting.{limits, shifts}
use Rattle.plain_trees.specs.Coproducts.{Extracted, extracted_order, extraction_terms, each_direction, negative_size, is_extracted}
use Rattle.plain_trees.proofs.WrittenTrees.{root_index}
use Rattle.tree_cuttings.specs.Roots.{has_edge}
use Rattle.tree_cuttings.specs.Entries.{Entry, with_inside, with_outside, pairs, closed_from, good_closed, good_entries}
use Rattle.tree_cuttings.specs.Terms.{extraction_entries, extracted_entry}
use Rattle.tree_cuttings.proofs.Degrees.{degree_raised}
use Rattle.tree_cuttings.proofs.Terms.{extraction_by_recursion}
use Rattle.tree_cuttings.proofs.Untouched.{choose_zero}
use Rattle.cutting_sizes.specs.Bounds.{AreTyped}
use Rattle.cutting_sizes.specs.Lows.{lowest, IsLive}
use Rattle.cutting_sizes.specs.Sizes.{node_sum}
use Rattle.cutting_sizes.proofs.Sizes.{node_size, den_some, size_least, nodes_least, extracted_low}
use Rattle.cutting_sizes.proofs.Lows.{low_inside, lowest_child, lowest_rest, closing_live}
use Rattle.cutting_sizes.proofs.Made.{IsBelow, IsMade, entries_made, taken_entry, all_both}
use Rattle.cutting_sizes.proofs.Excess.{above_low}
use Rattle.cutting_sizes.proofs.AddsUp.{open_adds_up}
use Rattle.cutting_sizes.proofs.Counts.{quotient_keeps}
use Rattle.cutting_sizes.proofs.Multiindices.{shift-multi}
use Rattle.cutting_sizes.proofs.TypesKept.{entries_typed}
use Rattle.cutting_tables.specs.Live.{is_live}
use Rattle.cutting_tables.proofs.Steps.{is_live-live, live-is_live}
use Rattle.coefficient_bounds.specs.Bounds.{all_sums, missed, shift_room, sums_within, coefficient_bound, has_small_coefficients}
use Rattle.coefficient_bounds.proofs.Binomials.{choose_power}
use Rattle.coefficient_bounds.proofs.Shifts.{shifts_most}
use Rattle.coefficient_bounds.proofs.Totals.{total_most, all_units, pairs_most, rows_most, below_most, collected_total, all_within}

root_in_nodes : (t : Plain) → sum (root_of t) ≤ node_sum t
root_in_nodes (bare n) = omega arith
root_in_nodes (graft k p c t) = let rest = root_in_nodes t in omega (arith, rest)

zeros_are_zero : (p : List ℕ) → is_zero (zeros p) ≡ true
zeros_are_zero [] = refl
zeros_are_zero (x ∷ p) = zeros_are_zero p

module _ (ty : Types) (types : AreTypes ty) (n b : ℕ) where
  abbrev w : List ℕ
  w = each_direction ty.dims n

  abbrev good : Plain → Bool
  good = is_extracted ty

  abbrev opens : Plain → List Entry
  opens t = good_entries good w true t

  abbrev idles : Plain → List Entry
  idles t = good_entries good w false t

  abbrev closed : Plain → List Entry
  closed t = good_closed good (closed_from (idles t) (opens t))

  abbrev count : Entry → ℕ
  count e = e.coefficient

  -- the coefficient of an entry that can still be closed
  abbrev weight : Plain → Entry → ℕ
  weight t e = counted_if (is_live ty b t e.part) e.coefficient

  weight_live : (t : Plain) (e : Entry) → IsLive ty b t e.part → weight t e ≡ e.coefficient
  weight_live t e live = ap (λ d. counted_if d e.coefficient) (is_live-live ty b t e.part live)

  weight_most : (t : Plain) (e : Entry) (m : ℕ) → (IsLive ty b t e.part → e.coefficient ≤ m) →
      weight t e ≤ m
  weight_most t e m h =
      (elim (is_live ty b t e.part) as (λ d. is_live ty b t e.part ≡ d →
      counted_if d e.coefficient ≤ m) [
        | true ↦ λ q. h (live-is_live ty b t e.part q)
        | false ↦ λ q. omega arith
      ]) refl

  weight_count : (t : Plain) (e : Entry) → weight t e ≤ count e
  weight_count t e = weight_most t e (count e) (λ live. omega arith)

  abbrev IsOpen : Plain → Entry → Type 0
  IsOpen u e = IsMade good w true u e × HasTypes ty e.part

  open_all : (t : Plain) → HasTypes ty t → AllByRecursion (IsOpen t) (opens t)
  open_all t typed =
      all_both (IsMade good w true t) (λ (e : Entry). HasTypes ty e.part) (opens t)
      (entries_made good w true t)
      (all_weaker (AreTyped ty) (λ (e : Entry). HasTypes ty e.part) (opens t) (λ e h. h.part)
      (entries_typed ty good n t typed))

  -- one more edge in the set
  module _ (k : ℕ) (p : List ℕ) (c t : Plain) where
    abbrev roots : ℕ
    roots = (1 + node_sum c) ^ node_sum t

    abbrev room : ℕ
    room = shift_room ty b k p c

    inside_roots : (x y : Entry) → IsMade good w true c x → IsMade good w true t y →
        choose (plus_of (root_of x.quotient) (root_of y.quotient)) (root_of x.quotient) ≤ roots
    inside_roots x y m l =
        let a = root_of x.quotient in
        let d = root_of y.quotient in
        let most = choose_power a d in
        let first = root_in_nodes x.quotient in
        let second = root_in_nodes y.quotient in
        let first_most = quotient_keeps c (x.part ∷ x.above) x.quotient (open_adds_up good w x m) in
        let second_most = quotient_keeps t (y.part ∷ y.above) y.quotient
        (open_adds_up good w y l) in
        let base : (1 + sum a) ^ sum d ≤ (1 + node_sum c) ^ sum d =
        pow-le-pow_left (omega (arith, first, first_most)) (sum d) in
        let exponent : (1 + node_sum c) ^ sum d ≤ roots =
        pow-le-pow_right (omega arith) (omega (arith, second, second_most)) in
        omega (arith, most, base, exponent)

    inside_weight : (x y : Entry) → IsMade good w true c x → IsMade good w true t y →
        weight (graft k p c t) (with_inside k p x y) ≤ roots * (weight c x * weight t y)
    inside_weight x y m l =
        weight_most (graft k p c t) (with_inside k p x y) (roots * (weight c x * weight t y))
        (λ live.
        let least = low_inside ty k p c t in
        let u = above_low ty good w m in
        let v = above_low ty good w l in
        let left : IsLive ty b c x.part = omega (arith, ints, live, least, u, v) in
        let right : IsLive ty b t y.part = omega (arith, ints, live, least, u, v) in
        let product = x.coefficient * y.coefficient in
        let factor = choose (plus_of (root_of x.quotient) (root_of y.quotient))
        (root_of x.quotient) in
        let most = mul-le product factor product roots (omega arith) (inside_roots x y m l) in
        rw (weight_live c x left, weight_live t y right) (omega (arith, most)))

    inside_total : total (weight (graft k p c t)) (pairs (with_inside k p) (opens c) (opens t))
        ≤ roots * (total (weight c) (opens c) * total (weight t) (opens t))
    inside_total =
        pairs_most (IsMade good w true c) (IsMade good w true t) (weight (graft k p c t)) (weight c)
        (weight t) (with_inside k p) roots inside_weight
        (opens c) (opens t) (entries_made good w true c) (entries_made good w true t)

    -- one more edge outside it, with a shift
    live_outside : (s : List ℕ) (x y : Entry) → IsMade good w true t y →
        IsLive ty b (graft k p c t) (with_outside s k p x y).part →
        size_in_units ty s + node_size ty y.part + missed ty k p c ≤ b
    live_outside s x y l live =
        let d = degree_raised ty s y.part in
        let v = above_low ty good w l in
        omega (arith, ints, clamps, live, d, v)

    live_rest : (s : List ℕ) (x y : Entry) → IsMade good w true t y →
        IsLive ty b (graft k p c t) (with_outside s k p x y).part →
        IsLive ty b t y.part
    live_rest s x y l live =
        let d = degree_raised ty s y.part in
        omega (arith, ints, clamps, live, d)

    in_room : (s : List ℕ) (x y : Entry) → IsMade good w true t y → HasTypes ty y.part →
        IsMultiIndex ty.dims s →
        IsLive ty b (graft k p c t) (with_outside s k p x y).part →
        sum s + sum (root_of y.part) ≤ room
    in_room s x y l typed multi live =
        let all = live_outside s x y l live in
        let shift = size_least ty s types multi in
        let nodes = nodes_least ty y.part types typed in
        let root = root_in_nodes y.part in
        let den = unsigned_abs ty.units.den in
        let scaled = mul-le den (sum (root_of y.part)) den (node_sum y.part) (omega arith) root in
        le-div (sum s + sum (root_of y.part)) (b - missed ty k p c) den (den_some ty types)
        (omega (arith, all, shift, nodes, scaled))

    outside_weights : IsMultiIndex ty.dims p → (x y : Entry) → IsOpen t y →
        total (λ s. weight (graft k p c t) (with_outside s k p x y)) (shifts w p)
        ≤ (1 + ty.dims) ^ room * (count x * weight t y)
    outside_weights multi x y o =
        let g : List ℕ → ℕ = λ s. weight (graft k p c t) (with_outside s k p x y) in
        let most : (s : List ℕ) → IsBelow s (limits w p) →
        g s ≤ count x * weight t y * choose (plus_of s (root_of y.part)) s =
        λ s i. weight_most (graft k p c t) (with_outside s k p x y)
        (count x * weight t y * choose (plus_of s (root_of y.part)) s)
        (λ live. rw (weight_live t y (live_rest s x y o.0 live)) (omega arith)) in
        let none : (s : List ℕ) → IsBelow s (limits w p) → room < sum s + sum (root_of y.part) →
        g s ≡ 0 =
        λ s i over.
        let nothing = weight_most (graft k p c t) (with_outside s k p x y) 0
        (λ live. let under = in_room s x y o.0 o.1 (shift-multi ty.dims n p s i multi) live in
        absurd (omega (arith, under, over))) in
        omega (arith, nothing) in
        let root = root_index ty y.part o.1 in
        let five = root.entries in
        let edge = multi.entries in
        let bound = shifts_most p (root_of y.part) ty.dims n room (count x * weight t y) g
        (omega (arith, five, edge)) most none in
        omega (arith, bound)

    outside_total : IsMultiIndex ty.dims p → HasTypes ty t →
        total (weight (graft k p c t)) (flat_map
        (λ s. pairs (with_outside s k p) (closed c) (opens t)) (shifts w p))
        ≤ (1 + ty.dims) ^ room * (total count (closed c) * total (weight t) (opens t))
    outside_total multi typed =
        rows_most (λ x. Unit {0}) (IsOpen t) (weight (graft k p c t)) count (weight t)
        (λ s. with_outside s k p) ((1 + ty.dims) ^ room) (shifts w p)
        (λ x y u o. outside_weights multi x y o) (closed c) (opens t) (all_units (closed c))
        (open_all t typed)

    -- the root is not touched
    idle_total : total count (idles (graft k p c t)) ≤ total count (closed c) * total count
        (idles t)
    idle_total =
        let product = pairs_most (λ x. Unit {0}) (λ y. Unit {0}) count count count
        (with_outside (zeros p) k p) 1
        (λ x y u v. let one = choose_zero (plus_of (zeros p) (root_of y.part)) (zeros p)
        (zeros_are_zero p) in
        let factor = ap (λ (i : ℕ). x.coefficient * y.coefficient * i) one in omega (arith, factor))
        (closed c) (idles t) (all_units (closed c)) (all_units (idles t)) in
        omega (arith, product)

  -- what is closed was live
  good_weight : (t : Plain) → neg_ℤ (pos b) ≤ℤ lowest ty t → (e : Entry) →
      counted_if (good e.part) (count e) ≤ weight t e
  good_weight t enough e =
      (elim (good e.part) as (λ d. good e.part ≡ d → counted_if d (count e) ≤ weight t e) [
        | true ↦ λ q.
            let live = closing_live ty b t e.part enough (extracted_low ty e.part q) in
            let same = weight_live t e live in
            omega (arith, same)
        | false ↦ λ q. omega arith
      ]) refl

  closing_weight : (t : Plain) → neg_ℤ (pos b) ≤ℤ lowest ty t → (e : Entry) →
      counted_if (has_edge e.part) (counted_if (not (has_edge e.part) || good e.part) (count e)) ≤
      weight t e
  closing_weight t enough e =
      elim (has_edge e.part) as
      (λ d. counted_if d (counted_if (not d || good e.part) (count e)) ≤ weight t e) [
        | true ↦ good_weight t enough e
        | false ↦ omega arith
      ]

  kept_most : (e : Entry) → counted_if (not (has_edge e.part) || good e.part) (count e) ≤ count e
  kept_most e = elim (not (has_edge e.part) || good e.part) as
      (λ d. counted_if d (count e) ≤ count e) [
        | true ↦ omega arith
        | false ↦ omega arith
      ]

  closed_total : (t : Plain) → neg_ℤ (pos b) ≤ℤ lowest ty t →
      total count (closed t) ≤ total count (idles t) + total (weight t) (opens t)
  closed_total t enough =
      let edged : Entry → Bool = λ e. has_edge e.part in
      let kept : Entry → ℕ = λ e. counted_if (not (has_edge e.part) || good e.part) (count e) in
      let all = total-filter count (λ e. not (has_edge e.part) || good e.part)
      (closed_from (idles t) (opens t)) in
      let parted = total-append kept (idles t) (filter edged (opens t)) in
      let touched = total-filter kept edged (opens t) in
      let first = total_most (λ e. Unit {0}) kept count (λ e u. kept_most e) (idles t)
      (all_units (idles t)) in
      let second = total_most (λ e. Unit {0}) (λ e. counted_if (edged e) (kept e)) (weight t)
      (λ e u. closing_weight t enough e) (opens t) (all_units (opens t)) in
      omega (arith, all, parted, touched, first, second)

  record AreWithin (t : Plain) : Type 0 where
    idle : total count (idles t) ≤ (sums_within ty b t).idle
    touched : total (weight t) (opens t) ≤ (sums_within ty b t).touched

  seed_total : (m : List ℕ) → total (weight (bare m)) (opens (bare m)) ≤ 2 ^ sum m
  seed_total m =
      let made = total-map (weight (bare m)) (taken_entry m) (below m) in
      let most = total_most (λ a. Unit {0}) (λ a. weight (bare m) (taken_entry m a)) (λ a. 1)
      (λ a u. weight_count (bare m) (taken_entry m a)) (below m) (all_units (below m)) in
      let some = below_most m in
      omega (arith, made, most, some)

  within : (t : Plain) → HasTypes ty t → neg_ℤ (pos b) ≤ℤ lowest ty t → AreWithin t
  within (bare m) typed enough = record { idle = omega arith; touched = seed_total m }
  within (graft k p c t) typed enough =
      let over = lowest_child ty k p c t in
      let beside = lowest_rest ty k p c t in
      let here : neg_ℤ (pos b) ≤ℤ lowest ty c = omega (arith, ints, enough, over) in
      let of_c = within c typed.1 here in
      let of_t = within t typed.2 (omega (arith, ints, enough, beside)) in
      let x = sums_within ty b c in
      let y = sums_within ty b t in
      let ends = closed_total c here in
      let c_idle = of_c.idle in
      let c_touched = of_c.touched in
      let closes : total count (closed c) ≤ all_sums x = omega (arith, ends, c_idle, c_touched) in
      let idle_sum = idle_total k p c t in
      let idle_most = mul-le (total count (closed c)) (total count (idles t)) (all_sums x) y.idle
      closes of_t.idle in
      let inside = inside_total k p c t in
      let outside = outside_total k p c t typed.0.decoration typed.2 in
      let inside_product = mul-le (total (weight c) (opens c)) (total (weight t) (opens t))
      x.touched y.touched of_c.touched of_t.touched in
      let outside_product = mul-le (total count (closed c)) (total (weight t) (opens t))
      (all_sums x) y.touched closes of_t.touched in
      let r = roots k p c t in
      let q = (1 + ty.dims) ^ shift_room ty b k p c in
      let inside_most = mul-le r (total (weight c) (opens c) * total (weight t) (opens t)) r
      (x.touched * y.touched) (omega arith) inside_product in
      let outside_most = mul-le q (total count (closed c) * total (weight t) (opens t)) q
      (all_sums x * y.touched) (omega arith) outside_product in
      let whole = total-append (weight (graft k p c t))
      (pairs (with_inside k p) (opens c) (opens t))
      (flat_map (λ s. pairs (with_outside s k p) (closed c) (opens t)) (shifts w p)) in
      record {
        idle = omega (arith, idle_sum, idle_most);
        touched = omega (arith, whole, inside, inside_most, outside, outside_most);
      }

  pub all_total : (t : Plain) → HasTypes ty t → neg_ℤ (pos b) ≤ℤ lowest ty t →
      total count (closed t) ≤ all_sums (sums_within ty b t)
  all_total t typed enough =
      let parts = within t typed enough in
      let idle = parts.idle in
      let touched = parts.touched in
      omega (arith, closed_total t enough, idle, touched)

pub terms_total : (ty : Types) (t : Plain) → AreTypes ty → HasTypes ty t →
    total (λ (e : Extracted × ℕ). e.1) (extraction_terms ty t) ≤ coefficient_bound ty t
terms_total ty t types typed =
    let n = negative_size ty t / unsigned_abs ty.units.den in
    let b = unsigned_abs (lowest ty t) in
    let es = extraction_entries ty t in
    let same = ap (λ ts. total (λ (e : Extracted × ℕ). e.1) ts) (extraction_by_recursion ty t) in
    let kept = collected_total extracted_order
    (map (λ (e : Entry). (extracted_entry e, e.coefficient)) es) in
    let made = total-map (λ (e : Extracted × ℕ). e.1)
    (λ (e : Entry). (extracted_entry e, e.coefficient)) es in
    let enough : neg_ℤ (pos b) ≤ℤ lowest ty t = omega (arith, ints) in
    let most = all_total ty types n b t typed enough in
    omega (arith, same, kept, made, most)

pub terms_in_range : (ty : Types) (t : Plain) → AreTypes ty → HasTypes ty t →
    has_small_coefficients ty t ≡ true →
    AllByRecursion (λ (e : Extracted × ℕ). e.1 < overflow) (extraction_terms ty t)
terms_in_range ty t types typed small =
    let most = terms_total ty t types typed in
    let less = ltb-true (coefficient_bound ty t) overflow small in
    all_within overflow (extraction_terms ty t) (omega (arith, most, less))
