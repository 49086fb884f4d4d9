-- What the cuttings of bounded trees give is bounded.
use Rattle.std.proofs.Common.{◌≡◌, ℕ, ◌+◌, ◌*◌, ◌/◌, ◌≤◌, pos, neg_ℤ, ◌≤ℤ◌, Bool, true, false, List, [], ◌∷◌, sum, refl, ap, subst, arith, unsigned_abs}
use Rattle.std.proofs.lemmas.Int.{ints}
use Rattle.std.proofs.lemmas.Nat.{mul-le}
use Rattle.std.proofs.Math.Nat.{le_of_mul-le-mul_left, div-le_of_le-mul}
use Rattle.std.specs.List.{AllByRecursion}
use Rattle.exact_sums.specs.Sums.{total}
use Rattle.degree_numbers.specs.declared.types.Types.{Types}
use Rattle.degree_numbers.specs.Types.{AreTypes}
use Rattle.plain_trees.specs.Plain.{Plain, graft, edge_count_of, IsSmall}
use Rattle.plain_trees.specs.Degree.{degree_of, HasTypes, empty_tree}
use Rattle.plain_trees.specs.Coproducts.{Extracted, each_direction, negative_size, is_extracted, extraction_terms}
use Rattle.tree_cuttings.specs.Entries.{Entry, forest_of, good_entries}
use Rattle.plain_trees.specs.Canon.{canon}
use Rattle.plain_trees.proofs.DegreeLaws.{canon_degree}
use Rattle.plain_trees.proofs.Inserts.{canon_count, canon_sum}
use Rattle.ordered_lists.specs.Members.{IsIn}
use Rattle.exact_sums.specs.Keyed.{keys}
use Rattle.cutting_sizes.proofs.TermSums.{canon-sum, all-canon_forest, extraction_entry}
use Rattle.limits.specs.declared.TheConstants.{MOST_EDGES, MOST_DECORATIONS, MOST_LISTED_DECORATIONS, MOST_NODE_DECORATIONS}
use Rattle.cutting_sizes.specs.Bounds.{IsBounded, HasAtMost, IsOfBounded, most_shift, most_quotient}
use Rattle.cutting_sizes.specs.Lows.{lowest, IsLive}
use Rattle.cutting_sizes.specs.Sizes.{node_sum, edge_sum}
use Rattle.cutting_sizes.proofs.Counts.{decoration_sum-parts, edges_add_up, derivatives_add_up, shifts_below, components_keep, quotient_keeps}
use Rattle.degree_numbers.proofs.TypeBounds.{all_weaker}
use Rattle.tree_cuttings.specs.Terms.{extraction_entries_within}
use Rattle.cutting_sizes.proofs.Lows.{closing_live}
use Rattle.cutting_sizes.proofs.Made.{IsMade, IsClosed, all_both, entries_made, closed_entries_made}
use Rattle.cutting_sizes.proofs.AddsUp.{open_adds_up, closed_adds_up}
use Rattle.cutting_sizes.proofs.TypesKept.{above-types, part-types, forest-types, empty-types, idle_parts}
use Rattle.cutting_sizes.proofs.Sizes.{den_some, size_most, nodes_least, negative_size_most, AreLowTyped, forest_nodes}
use Rattle.cutting_sizes.proofs.Excess.{above_low, above_all, forest_all, lowest_least}

grown : (den n : ℕ) → n ≤ most_shift → den * n ≤ den * most_shift
grown den n l = mul-le den n den most_shift (omega arith) l

pub negative_bounded : (ty : Types) (t : Plain) → AreTypes ty → IsBounded t → negative_size ty t ≤ unsigned_abs ty.units.den * most_shift
negative_bounded ty t h b =
    let most = negative_size_most ty t h in
    let e = b.edges in
    let d = b.derivatives in
    let g = grown (unsigned_abs ty.units.den) (20 * edge_count_of t + 10 * edge_sum t) (omega (arith, e, d)) in
    omega (arith, most, g)

pub shifts_bounded : (ty : Types) (t : Plain) → AreTypes ty → IsBounded t → negative_size ty t / unsigned_abs ty.units.den ≤ most_shift
shifts_bounded ty t h b = div-le_of_le-mul (unsigned_abs ty.units.den) (negative_bounded ty t h b)

pub lows_bounded : (ty : Types) (t : Plain) → AreTypes ty → IsBounded t → neg_ℤ (pos (unsigned_abs ty.units.den * most_shift)) ≤ℤ lowest ty t
lows_bounded ty t h b = let n = negative_bounded ty t h b in let l = lowest_least ty t in omega (arith, ints, n, l)

pub bounded_parts : (k : ℕ) (p : List ℕ) (c t : Plain) → IsBounded (graft k p c t) → IsBounded c × IsBounded t
bounded_parts k p c t b =
    let e = b.edges in
    let d = b.derivatives in
    let n = b.decorations in (
      record { edges = omega (arith, e); derivatives = omega (arith, d); decorations = omega (arith, n) },
      record { edges = omega (arith, e); derivatives = omega (arith, d); decorations = omega (arith, n) },
    )

all_bounded : (fs : List Plain) → total edge_count_of fs ≤ MOST_EDGES →
    total edge_sum fs ≤ MOST_LISTED_DECORATIONS → total node_sum fs ≤ MOST_NODE_DECORATIONS →
    AllByRecursion IsBounded fs
all_bounded [] e d n = tt
all_bounded (f ∷ fs) e d n =
    (record { edges = omega (arith, e); derivatives = omega (arith, d); decorations = omega (arith, n) }, all_bounded fs (omega (arith, e)) (omega (arith, d)) (omega (arith, n)))

low_forest : (ty : Types) (fs : List Plain) → AreTypes ty → AreLowTyped ty fs →
    total edge_count_of fs ≤ MOST_EDGES → total edge_sum fs ≤ MOST_LISTED_DECORATIONS →
    total node_sum fs ≤ MOST_NODE_DECORATIONS
low_forest ty fs h a e d = let n = forest_nodes ty fs h a in omega (arith, n, e, d)

module _ (ty : Types) (j : ℕ) (types : AreTypes ty) where
  abbrev w : List ℕ
  w = each_direction ty.dims j

  abbrev good : Plain → Bool
  good = is_extracted ty

  forest_good : (t : Plain) (e : Entry) → IsClosed good w t e → AllByRecursion (λ f. good f ≡ true) (forest_of e)
  forest_good = forest_all good w (λ f. good f ≡ true) (λ f e g. g)

  pub closed_bounded : (t : Plain) (e : Entry) → IsClosed good w t e → HasTypes ty t → IsBounded t →
      AllByRecursion IsBounded (forest_of e) × HasAtMost most_quotient e.quotient
  closed_bounded t e m typed b =
      let fs = forest_of e in
      let up = closed_adds_up good w t e m in
      let edges = edges_add_up t fs e.quotient up in
      let most = b.edges in
      let below = b.derivatives in
      let nodes = b.decorations in
      let kept = components_keep t fs e.quotient up in
      let low = low_forest ty fs types (all_both (λ f. good f ≡ true) (HasTypes ty) fs (forest_good t e m) (forest-types ty good j t e m typed)) (omega (arith, edges, most)) (omega (arith, kept, below)) in
      let all = derivatives_add_up t fs e.quotient up in
      let shifted = shifts_below t fs e.quotient up in
      let left = quotient_keeps t fs e.quotient up in
      let sums = decoration_sum-parts e.quotient in (
        all_bounded fs (omega (arith, edges, most)) (omega (arith, kept, below)) low,
        record { edges = omega (arith, edges, most); decorations = omega (arith, sums, left, all, shifted, low, nodes, below) },
      )

  -- a live component
  live_nodes : (b : Bool) (t : Plain) (e : Entry) (r : ℕ) → IsMade good w b t e →
      HasTypes ty e.part → r ≤ unsigned_abs ty.units.den * most_shift → IsLive ty r t e.part →
      node_sum e.part ≤ most_shift
  live_nodes b t e r m typed most live =
      let l = above_low ty good w m in
      let n = nodes_least ty e.part types typed in
      le_of_mul-le-mul_left {k = unsigned_abs ty.units.den} (omega (arith, ints, l, n, most, live)) (den_some ty types)

  pub live_bounded : (b : Bool) (t : Plain) (e : Entry) (r : ℕ) → IsMade good w b t e →
      HasTypes ty e.part → HasTypes ty t → IsBounded t →
      r ≤ unsigned_abs ty.units.den * most_shift → IsLive ty r t e.part → IsOfBounded e
  live_bounded b t e r m typed of_tree bounded most live =
      let up = open_adds_up good w e m in
      let fs = e.part ∷ e.above in
      let edges = edges_add_up t fs e.quotient up in
      let some = bounded.edges in
      let below = bounded.derivatives in
      let nodes = bounded.decorations in
      let kept = components_keep t fs e.quotient up in
      let low = low_forest ty e.above types (all_both (λ f. good f ≡ true) (HasTypes ty) e.above (above_all good w (λ f. good f ≡ true) (λ f e g. g) m) (above-types ty good j m of_tree)) (omega (arith, edges, some)) (omega (arith, kept, below)) in
      let own = live_nodes b t e r m typed most live in
      let all = derivatives_add_up t fs e.quotient up in
      let shifted = shifts_below t fs e.quotient up in
      let left = quotient_keeps t fs e.quotient up in
      let sums = decoration_sum-parts e.quotient in
      let parts = decoration_sum-parts e.part in
      record {
        above = all_bounded e.above (omega (arith, edges, some)) (omega (arith, kept, below)) low;
        part = record { edges = omega (arith, edges, some); decorations = omega (arith, parts, own, kept, below) };
        quotient = record { edges = omega (arith, edges, some); decorations = omega (arith, sums, left, all, shifted, low, own, nodes, below) };
      }

pub canon_bounded : (t : Plain) → IsBounded t → IsBounded (canon t)
canon_bounded t b =
    let e = b.edges in
    let d = b.derivatives in
    let n = b.decorations in
    record {
      edges = omega (arith, e, canon_count t);
      derivatives = omega (arith, d, canon-sum (λ n. 0) (λ k p. sum p) t);
      decorations = omega (arith, n, canon-sum sum (λ k p. 0) t);
    }

pub canon_at_most : (most : ℕ) (t : Plain) → HasAtMost most t → HasAtMost most (canon t)
canon_at_most most t b = let e = b.edges in let d = b.decorations in record { edges = omega (arith, e, canon_count t); decorations = omega (arith, d, canon_sum t) }

pub terms_bounded : (ty : Types) (t : Plain) (k : Extracted) → AreTypes ty → HasTypes ty t →
    IsBounded t → IsIn k (keys (extraction_terms ty t)) →
    AllByRecursion IsBounded k.0 × HasAtMost most_quotient k.1
terms_bounded ty t k types typed b h =
    let from = extraction_entry ty t k h in
    let e = from.0 in
    let small = closed_bounded ty (negative_size ty t / unsigned_abs ty.units.den) types t e from.1.0 typed b in
    subst (λ (l : Extracted). AllByRecursion IsBounded l.0 × HasAtMost most_quotient l.1) from.1.1 (all-canon_forest IsBounded canon_bounded (forest_of e) small.0, canon_at_most most_quotient e.quotient small.1)

pub entries_closed_bounded : (ty : Types) (j : ℕ) (t : Plain) → AreTypes ty → HasTypes ty t → IsBounded t →
    AllByRecursion (λ e. AllByRecursion IsBounded (forest_of e) × HasAtMost most_quotient e.quotient) (extraction_entries_within (each_direction ty.dims j) ty t)
entries_closed_bounded ty j t types typed b =
    let w = each_direction ty.dims j in
    all_weaker (IsClosed (is_extracted ty) w t) (λ e. AllByRecursion IsBounded (forest_of e) × HasAtMost most_quotient e.quotient) (extraction_entries_within w ty t)
    (λ e m. closed_bounded ty j types t e m typed b) (closed_entries_made (is_extracted ty) w t)

pub entries_live_bounded : (ty : Types) (j r : ℕ) (t : Plain) → AreTypes ty → HasTypes ty t → IsBounded t → r ≤ unsigned_abs ty.units.den * most_shift →
    AllByRecursion (λ e. IsLive ty r t e.part → IsOfBounded e) (good_entries (is_extracted ty) (each_direction ty.dims j) true t)
entries_live_bounded ty j r t types typed b most =
    let w = each_direction ty.dims j in
    all_weaker (IsMade (is_extracted ty) w true t) (λ e. IsLive ty r t e.part → IsOfBounded e) (good_entries (is_extracted ty) w true t)
    (λ e m live. live_bounded ty j types true t e r m (part-types ty (is_extracted ty) j m refl typed) typed b most live) (entries_made (is_extracted ty) w true t)

-- the empty tree is live
empty_live : (ty : Types) (t part : Plain) → AreTypes ty → IsBounded t → part ≡ empty_tree → IsLive ty (unsigned_abs ty.units.den * most_shift) t part
empty_live ty t part types b e =
    let l = lows_bounded ty t types b in
    closing_live ty (unsigned_abs ty.units.den * most_shift) t part l (let size = size_most ty (0 ∷ 0 ∷ 0 ∷ 0 ∷ 0 ∷ []) types in let same = ap (λ s. (degree_of ty s).a) e in omega (arith, ints, size, same))

pub entries_idle_bounded : (ty : Types) (j : ℕ) (t : Plain) → AreTypes ty → HasTypes ty t →
    IsBounded t →
    AllByRecursion IsOfBounded (good_entries (is_extracted ty) (each_direction ty.dims j) false t)
entries_idle_bounded ty j t types typed b =
    let w = each_direction ty.dims j in
    let IsIdle : Entry → Type 0 = λ e. IsMade (is_extracted ty) w false t e × (e.part ≡ empty_tree) in
    all_weaker IsIdle IsOfBounded (good_entries (is_extracted ty) w false t)
    (λ e m. live_bounded ty j types false t e (unsigned_abs ty.units.den * most_shift) m.0 (empty-types ty e.part m.1) typed b (omega arith) (empty_live ty t e.part types b m.1))
    (all_both (IsMade (is_extracted ty) w false t) (λ (e : Entry). e.part ≡ empty_tree) (good_entries (is_extracted ty) w false t) (entries_made (is_extracted ty) w false t) (idle_parts ty (is_extracted ty) w t typed))

pub canon_at_most_back : (most : ℕ) (t : Plain) → HasAtMost most (canon t) → HasAtMost most t
canon_at_most_back most t b = let e = b.edges in let d = b.decorations in record { edges = omega (arith, e, canon_count t); decorations = omega (arith, d, canon_sum t) }

pub at_most_small : (most : ℕ) (t : Plain) → most ≤ MOST_DECORATIONS → HasAtMost most t → IsSmall t
at_most_small most t l b = let e = b.edges in let d = b.decorations in record { edges = e; decorations = omega (arith, d, l) }

pub bounded_small : (t : Plain) → IsBounded t → IsSmall t
bounded_small t b = let e = b.edges in let d = b.derivatives in let n = b.decorations in record { edges = e; decorations = omega (arith, d, n, decoration_sum-parts t) }

pub canon_live : (ty : Types) (b : ℕ) (t part : Plain) → IsLive ty b t part → IsLive ty b t (canon part)
canon_live ty b t part h = rw (canon_degree ty part) h
