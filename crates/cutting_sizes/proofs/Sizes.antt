-- The sizes of edges and of decorations, in units.
use Rattle.std.proofs.Common.{◌≡◌, ℕ, zero, suc, ◌+◌, ◌*◌, ◌<◌, ◌≤◌, pos, ◌≤ℤ◌, ◌<ℤ◌, ◌+ℤ◌, Bool, true, false, not, ◌&&◌, List, [], ◌∷◌, length, take, drop, sum, refl, arith, unsigned_abs, Ordering, Less, Equal, Greater}
use Rattle.std.specs.Prelude.{slice_get, unwrap_or}
use Rattle.std.specs.List.{AllByRecursion}
use Rattle.std.specs.Option.{option_map}
use Rattle.std.specs.Ordering.{int_cmp, ordering_then, is_gt, MatchOrdering}
use Rattle.std.proofs.lemmas.Cmp.{int_ranked}
use Rattle.std.proofs.lemmas.Int.{ints}
use Rattle.std.proofs.lemmas.Nat.{mul-le}
use Rattle.std.proofs.Math.Nat.{le_of_mul-le-mul_left}
use Rattle.exact_sums.specs.Sums.{total, counted_if}
use Rattle.degree_numbers.specs.declared.degree.Degree.{Degree}
use Rattle.degree_numbers.specs.declared.types.Types.{Types}
use Rattle.degree_numbers.specs.declared.types.TypeEntry.{TypeEntry}
use Rattle.degree_numbers.specs.Degree.{degree_zero}
use Rattle.degree_numbers.specs.Multi.{scaled_size}
use Rattle.degree_numbers.specs.Types.{AreTypes, IsNoiseEntry, IsKernelEntry, type_degree, noise_count, size_in_units}
use Rattle.degree_numbers.proofs.ScaledSizes.{scaled_size_most}
use Rattle.degree_numbers.proofs.TypeBounds.{all_weaker, all_from_parts, scaling_within}
use Rattle.plain_trees.specs.Plain.{Plain, bare, graft, edge_count_of}
use Rattle.plain_trees.specs.Degree.{edge_degree_of, degree_of, planted, IsMultiIndex, HasTypes}
use Rattle.plain_trees.specs.Coproducts.{is_below_zero, is_above_zero, negative_size, positive_size, is_extracted}
use Rattle.tree_cuttings.proofs.Degrees.{below_low, negative_edge, positive_edge, edge_low}
use Rattle.cutting_sizes.specs.Sizes.{sum_over, node_sum, edge_sum}
use Rattle.cutting_sizes.proofs.Counts.{sum-cons}

-- the sum of the sizes of the decorations of the nodes
abbrev pub node_size : Types → Plain → ℕ
node_size ty = sum_over (size_in_units ty) (λ k p. 0)

pub den_some : (ty : Types) → AreTypes ty → 0 < unsigned_abs ty.units.den
den_some ty h = let above = h.den_above in omega (arith, ints, above)

-- the degree of a type is at least -20 and at most 20
modest_at : (den : ℕ) (es : List TypeEntry) (k : ℕ) →
    AllByRecursion (λ e. unsigned_abs e.degree.a ≤ 20 * den) es →
    unsigned_abs (unwrap_or (option_map (λ e. e.degree) (slice_get es k)) degree_zero).a ≤ 20 * den
modest_at den [] k h = omega (arith, ints)
modest_at den (e ∷ es) zero h = h.0
modest_at den (e ∷ es) (suc k) h = modest_at den es k h.1

pub type_modest : (ty : Types) (k : ℕ) → AreTypes ty → unsigned_abs (type_degree ty k).a ≤ 20 * unsigned_abs ty.units.den
type_modest ty k h =
    let den = unsigned_abs ty.units.den in
    modest_at den ty.list k
    (all_from_parts (λ e. unsigned_abs e.degree.a ≤ 20 * den) (noise_count ty) ty.list (all_weaker (IsNoiseEntry den) (λ e. unsigned_abs e.degree.a ≤ 20 * den) _ (λ e p. p.a.size) h.of_noises)
    (all_weaker (IsKernelEntry den) (λ e. unsigned_abs e.degree.a ≤ 20 * den) _ (λ e p. p.a.size) h.of_kernels))

-- the size of a multiindex is at most ten times the sum of its entries
pub size_most : (ty : Types) (m : List ℕ) → AreTypes ty → size_in_units ty m ≤ unsigned_abs ty.units.den * (10 * sum m)
size_most ty m h = mul-le (unsigned_abs ty.units.den) (scaled_size ty.scaling m) (unsigned_abs ty.units.den) (10 * sum m) (omega arith) (scaled_size_most ty.scaling m (scaling_within ty h))

-- and at least that sum
none-sum : (m : List ℕ) → AllByRecursion (λ x. x ≡ 0) m → sum m ≡ 0
none-sum [] h = refl
none-sum (x ∷ m) h = let a = h.0 in omega (arith, sum-cons x m, a, none-sum m h.1)

sum-scaled : (d : ℕ) (ss m : List ℕ) → d ≤ length ss →
    AllByRecursion (λ c. (0 < c) × (c ≤ 10)) (take d ss) → AllByRecursion (λ x. x ≡ 0) (drop d m) →
    sum m ≤ scaled_size ss m
sum-scaled zero ss m l a z = let e = none-sum m z in omega (arith, e)
sum-scaled (suc d) [] m l a z = absurd (omega (arith, l))
sum-scaled (suc d) (c ∷ ss) [] l a z = omega arith
sum-scaled (suc d) (c ∷ ss) (x ∷ m) l a z =
    let some : 1 ≤ c = omega (arith, a.0.0) in
    let first = mul-le 1 x c x some (omega arith) in
    omega (arith, first, sum-cons x m, sum-scaled d ss m (omega (arith, l)) a.1 z)

pub size_least : (ty : Types) (m : List ℕ) → AreTypes ty → IsMultiIndex ty.dims m → unsigned_abs ty.units.den * sum m ≤ size_in_units ty m
size_least ty m h k =
    let five = h.scaling.entries in
    let most = h.scaling.most in
    mul-le (unsigned_abs ty.units.den) (sum m) (unsigned_abs ty.units.den) (scaled_size ty.scaling m) (omega arith) (sum-scaled ty.dims ty.scaling m (omega (arith, five, most)) h.scaling.within k.rest)

pub nodes_least : (ty : Types) (t : Plain) → AreTypes ty → HasTypes ty t → unsigned_abs ty.units.den * node_sum t ≤ node_size ty t
nodes_least ty (bare n) h k = size_least ty n h k
nodes_least ty (graft l p c t) h k = omega (arith, nodes_least ty c h k.1, nodes_least ty t h k.2)

pub nodes_most : (ty : Types) (t : Plain) → AreTypes ty → node_size ty t ≤ unsigned_abs ty.units.den * (10 * node_sum t)
nodes_most ty (bare n) h = size_most ty n h
nodes_most ty (graft l p c t) h = omega (arith, nodes_most ty c h, nodes_most ty t h)

-- what edges take from a degree, and what they add
negative_most : (d : Degree) (x y : ℕ) → pos 0 ≤ℤ (d.a +ℤ pos (x + y)) → d.a ≤ℤ pos x → counted_if (is_below_zero d) (unsigned_abs d.a) ≤ x + y
negative_most d x y l m =
    (elim (is_below_zero d) as (λ b. is_below_zero d ≡ b → counted_if b (unsigned_abs d.a) ≤ x + y) [
      | true ↦ λ e. let n = below_low d e in omega (arith, ints, l, n)
      | false ↦ λ e. omega arith
    ]) refl

pub negative_edge_most : (ty : Types) (k : ℕ) (p : List ℕ) → AreTypes ty → negative_edge ty k p ≤ unsigned_abs ty.units.den * (20 + 10 * sum p)
negative_edge_most ty k p h =
    let t = type_modest ty k h in
    let s = size_most ty p h in
    let e = negative_most (edge_degree_of ty k p) (20 * unsigned_abs ty.units.den) (size_in_units ty p) (omega (arith, ints, t)) (omega (arith, ints, t)) in
    omega (arith, e, s)

pub negative_size_most : (ty : Types) (t : Plain) → AreTypes ty → negative_size ty t ≤ unsigned_abs ty.units.den * (20 * edge_count_of t + 10 * edge_sum t)
negative_size_most ty (bare n) h = omega arith
negative_size_most ty (graft k p c t) h = let e = negative_edge_most ty k p h in omega (arith, e, negative_size_most ty c h, negative_size_most ty t h)

abbrev Ranked : Degree → Ordering → Type 0
Ranked d o = MatchOrdering o (d.a <ℤ pos 0) (d.a ≡ pos 0) (pos 0 <ℤ d.a)

pub above_is : (d : Degree) → is_above_zero d ≡ true → pos 0 ≤ℤ d.a
above_is d h =
    (elim (int_cmp d.a (pos 0)) as (λ o. Ranked d o → is_gt (ordering_then o (int_cmp d.b (pos 0))) ≡ true → pos 0 ≤ℤ d.a) [
      | Less ↦ λ r e. absurd cc
      | Equal ↦ λ r e. omega (arith, ints, r)
      | Greater ↦ λ r e. omega (arith, ints, r)
    ]) (int_ranked d.a (pos 0) (int_cmp d.a (pos 0)) refl) h

positive_most : (d : Degree) (x : ℕ) → d.a ≤ℤ pos x → counted_if (is_above_zero d) (unsigned_abs d.a) ≤ x
positive_most d x m =
    (elim (is_above_zero d) as (λ b. is_above_zero d ≡ b → counted_if b (unsigned_abs d.a) ≤ x) [
      | true ↦ λ e. let n = above_is d e in omega (arith, ints, m, n)
      | false ↦ λ e. omega arith
    ]) refl

pub positive_edge_most : (ty : Types) (k : ℕ) (p : List ℕ) → AreTypes ty → positive_edge ty k p ≤ unsigned_abs ty.units.den * 20
positive_edge_most ty k p h =
    let t = type_modest ty k h in
    let e = positive_most (edge_degree_of ty k p) (20 * unsigned_abs ty.units.den) (omega (arith, ints, t)) in
    omega (arith, e)

pub positive_size_most : (ty : Types) (t : Plain) → AreTypes ty → positive_size ty t ≤ unsigned_abs ty.units.den * (20 * edge_count_of t + 10 * node_sum t)
positive_size_most ty (bare n) h = let s = size_most ty n h in omega (arith, s)
positive_size_most ty (graft k p c t) h = let e = positive_edge_most ty k p h in omega (arith, e, positive_size_most ty c h, positive_size_most ty t h)

-- the degree of a tree with the sizes of its nodes left out
pub degree_least : (ty : Types) (t : Plain) → pos (node_size ty t) ≤ℤ ((degree_of ty t).a +ℤ pos (negative_size ty t))
degree_least ty (bare n) = omega (arith, ints)
degree_least ty (graft k p c t) = let e = edge_low ty k p in let a = degree_least ty c in let b = degree_least ty t in omega (arith, ints, e, a, b)

and_second : (a b : Bool) → a && b ≡ true → b ≡ true
and_second true b h = h
and_second false b h = absurd cc

pub extracted_low : (ty : Types) (f : Plain) → is_extracted ty f ≡ true → (degree_of ty f).a ≤ℤ pos 0
extracted_low ty f h = below_low (degree_of ty f) (and_second (not (planted ty f)) (is_below_zero (degree_of ty f)) h)

-- a tree of a degree of at most 0 has small decorations
pub low_nodes : (ty : Types) (f : Plain) → AreTypes ty → HasTypes ty f → (degree_of ty f).a ≤ℤ pos 0 → node_sum f ≤ 20 * edge_count_of f + 10 * edge_sum f
low_nodes ty f h k low =
    let den = unsigned_abs ty.units.den in
    let least = nodes_least ty f h k in
    let degree = degree_least ty f in
    let most = negative_size_most ty f h in
    le_of_mul-le-mul_left {k = den} (omega (arith, ints, least, degree, most, low)) (den_some ty h)

abbrev pub AreLowTyped : Types → List Plain → Type 0
AreLowTyped ty = AllByRecursion (λ f. (is_extracted ty f ≡ true) × HasTypes ty f)

pub forest_nodes : (ty : Types) (fs : List Plain) → AreTypes ty → AreLowTyped ty fs → total node_sum fs ≤ 20 * total edge_count_of fs + 10 * total edge_sum fs
forest_nodes ty [] h a = omega arith
forest_nodes ty (f ∷ fs) h a = omega (arith, low_nodes ty f h a.0.1 (extracted_low ty f a.0.0), forest_nodes ty fs h a.1)
