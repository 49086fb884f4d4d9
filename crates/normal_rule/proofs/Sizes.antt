-- How great the numbers of the inequality are.
use Rattle.std.proofs.Common.{◌≡◌, ℕ, ◌<◌, ◌≤◌, ◌+◌, ◌*◌, List, [], ◌∷◌, length, ℤ, pos, Bool, true, false, sum, arith, Some, None, Option, unsigned_abs, get_or, take, ap, sym, ◌∙◌, subst}
use Rattle.std.specs.Prelude.{slice_get, unwrap_or, ◌==◌, ◌+ℤ◌, if◌then◌else◌, FitsSigned, fold}
use Rattle.std.specs.Int.{w64}
use Rattle.std.specs.List.{All, AllByRecursion}
use Rattle.std.specs.Option.{option_map}
use Rattle.std.proofs.lemmas.Int.{ints}
use Rattle.std.proofs.lemmas.List.Elements.{All-tail, All-take}
use Rattle.std.proofs.lemmas.List.Sums.{fold_more}
use Rattle.std.proofs.lemmas.List.{length-take-le}
use Rattle.degree_numbers.specs.declared.degree.Degree.{Degree}
use Rattle.std.proofs.Math.Nat.{mul-le-mul}
use Rattle.degree_numbers.specs.declared.types.Kind.{Kind}
use Rattle.degree_numbers.specs.declared.types.Kind.TheVariants.{Noise, Kernel}
use Rattle.degree_numbers.specs.declared.types.TypeEntry.{TypeEntry}
use Rattle.degree_numbers.specs.declared.types.Types.{Types}
use Rattle.degree_numbers.specs.Degree.{IsWithin, degree_zero, degree_plus}
use Rattle.degree_numbers.specs.Types.{AreTypes, type_degree, size_in_units}
use Rattle.degree_numbers.proofs.TypeBounds.{type_a_within, writable_within, den_small, scaling_within}
use Rattle.equations.specs.declared.equation.Equation.{Equation}
use Rattle.equations.specs.declared.equation.Unknown.{Unknown}
use Rattle.equations.specs.Accepted.{IsEquation, IsUnknown}
use Rattle.normal_rule.specs.Regularity.{kernel_regularity, regularity_by, regularity_at, regularity_of, edge_regularity, node_regularity, right_side, standard, IsMeasuredNode}
use Rattle.normal_rule.specs.declared.rule.NodeType.{NodeType}
use Rattle.normal_rule.specs.declared.rule.EdgeType.{EdgeType}
use Rattle.degree_numbers.specs.Multi.{scaled_size}

product_small : (s m : ℕ) → s ≤ 10 → m ≤ 4096 → s * m ≤ 40960
product_small s m h k = mul-le-mul h k

pub scaled_small : (ss ms : List ℕ) → AllByRecursion (λ s. s ≤ 10) ss → All (λ m. m ≤ 4096) ms → scaled_size ss ms ≤ 40960 * length ss
scaled_small [] ms h k = omega arith
scaled_small (s ∷ ss) [] h k = omega arith
scaled_small (s ∷ ss) (m ∷ ms) h k = omega (arith, product_small s m h.0 (k 0 m (omega arith)), scaled_small ss ms h.1 (All-tail (λ x. x ≤ 4096) m ms k))

nothing : IsWithin (pos 0) 20000000
nothing = record { low = omega (arith, ints); high = omega (arith, ints) }

kernel_within : (ty : Types) (count : ℕ) (us : List Unknown) (k : ℕ) → AreTypes ty → All (IsUnknown ty count) us → IsWithin (kernel_regularity us k) 20000000
kernel_within ty count [] k t h = nothing
kernel_within ty count (u ∷ us) k t h =
    elim (u.kernel.0 == k) as (λ (b : Bool). IsWithin (if b then u.regularity.a else kernel_regularity us k) 20000000) [
      | true ↦ writable_within (unsigned_abs ty.units.den) u.regularity.a (den_small ty t) (h 0 u (omega arith)).bounded
      | false ↦ kernel_within ty count us k t (All-tail (IsUnknown ty count) u us h)
    ]

by_within : (kind : Kind) (d r : ℤ) → IsWithin d 20000000 → IsWithin r 20000000 → IsWithin (regularity_by kind d r) 20000000
by_within Noise d r h k = h
by_within Kernel d r h k = k

at_within : (o : Option TypeEntry) (r : ℤ) →
    IsWithin (unwrap_or (option_map (λ e. e.degree) o) degree_zero).a 20000000 →
    IsWithin r 20000000 → IsWithin (regularity_at o r) 20000000
at_within None r h k = k
at_within (Some e) r h k = by_within e.kind e.degree.a r h k

-- the regularity of each type is small
pub regularity_within : (eq : Equation) (k : ℕ) → IsEquation eq → IsWithin (regularity_of eq k) 20000000
regularity_within eq k h = at_within (slice_get eq.types.list k) (kernel_regularity eq.unknowns k) (type_a_within eq.types k h.types) (kernel_within eq.types (length eq.parameters) eq.unknowns k h.types h.unknowns)

pub degree_within : (eq : Equation) (k : ℕ) → IsEquation eq → IsWithin (type_degree eq.types k).a 20000000
degree_within eq k h = type_a_within eq.types k h.types

pub scaling_small : (eq : Equation) → IsEquation eq → AllByRecursion (λ s. s ≤ 10) eq.types.scaling
scaling_small eq h = scaling_within eq.types h.types

pub size_small : (eq : Equation) (m : List ℕ) → IsEquation eq → All (λ x. x ≤ 4096) m → scaled_size eq.types.scaling m ≤ 204800
size_small eq m h small = omega (arith, scaled_small eq.types.scaling m (scaling_small eq h) small, h.types.scaling.entries)

units_product : (den size : ℕ) → den ≤ 1000000 → size ≤ 204800 → den * size ≤ 204800000000
units_product den size h k = mul-le-mul h k

pub units_small : (eq : Equation) (m : List ℕ) → IsEquation eq → All (λ x. x ≤ 4096) m → size_in_units eq.types m ≤ 204800000000
units_small eq m h small = units_product (unsigned_abs eq.types.units.den) (scaled_size eq.types.scaling m) (den_small eq.types h.types) (size_small eq m h small)

pub edge_within : (eq : Equation) (e : EdgeType) → IsEquation eq → All (λ m. m ≤ 4096) e.p.entries → IsWithin (edge_regularity eq e) 205000000000
edge_within eq e h small =
    let size = units_small eq e.p.entries h small in
    let reg = regularity_within eq e.kind.0 h in
    record { low = omega (arith, ints); high = omega (arith, ints) }

pub edge_fits : (eq : Equation) (e : EdgeType) → IsEquation eq → All (λ m. m ≤ 4096) e.p.entries → FitsSigned w64 (edge_regularity eq e)
edge_fits eq e h small = let w = edge_within eq e h small in omega (arith, ints)

pub sum_fits : (x y : ℤ) (m n : ℕ) → IsWithin x m → IsWithin y n → m + n ≤ 10000000000000 → FitsSigned w64 (x +ℤ y)
sum_fits x y m n h k most = omega (arith, ints)

pub sum_within : (x y : ℤ) (m n : ℕ) → IsWithin x m → IsWithin y n → IsWithin (x +ℤ y) (m + n)
sum_within x y m n h k = record { low = omega (arith, ints); high = omega (arith, ints) }

pub edges_within : (eq : Equation) (es : List EdgeType) (a : ℤ) (m : ℕ) → IsEquation eq → All (λ e. All (λ x. x ≤ 4096) e.p.entries) es → IsWithin a m
    → IsWithin (fold (λ s e. s +ℤ edge_regularity eq e) a es) (m + 205000000000 * length es)
edges_within eq [] a m h k w = let same : m + 0 ≡ m = omega arith in rw same w
edges_within eq (e ∷ es) a m h k w =
    let first = edge_within eq e h (k 0 e (omega arith)) in
    let rest = edges_within eq es (a +ℤ edge_regularity eq e) (m + 205000000000) h (All-tail (λ f. All (λ x. x ≤ 4096) f.p.entries) e es k) (sum_within a (edge_regularity eq e) m 205000000000 w first) in
    record { low = omega (arith, ints); high = omega (arith, ints) }

pub node_within : (eq : Equation) (n : NodeType) → IsEquation eq → IsMeasuredNode n → IsWithin (node_regularity eq n) 4920000000000
node_within eq n h m =
    let w = edges_within eq n.edges (pos 0) 0 h m.1 (record { low = omega (arith, ints); high = omega (arith, ints) }) in
    let few = m.0 in
    record { low = omega (arith, ints); high = omega (arith, ints) }

pub right_within : (eq : Equation) (k : ℕ) (n : NodeType) → IsEquation eq → IsMeasuredNode n → IsWithin (right_side eq k n) 4920020000000
right_within eq k n h m = sum_within (type_degree eq.types k).a (node_regularity eq n) 20000000 4920000000000 (degree_within eq k h) (node_within eq n h m)

abbrev edge_small : EdgeType → Type 0
edge_small e = All (λ x. x ≤ 4096) e.p.entries

abbrev plus_edge : Equation → ℤ → EdgeType → ℤ
plus_edge eq s e = s +ℤ edge_regularity eq e

-- one edge more, from what the loop reads
pub step_fits : (eq : Equation) (n : NodeType) (es : List EdgeType) (i : ℕ) (d : EdgeType) → IsEquation eq → IsMeasuredNode n → es ≡ n.edges → i < length es →
    FitsSigned w64 (fold (λ s e. s +ℤ edge_regularity eq e) (pos 0) (take i n.edges) +ℤ edge_regularity eq (get_or es i d))
step_fits eq n es i d h m same lt =
    let here : length es ≡ length n.edges = ap length same in
    let long : length (take i n.edges) ≡ i = length-take-le i n.edges (omega arith) in
    let sum = edges_within eq (take i n.edges) (pos 0) 0 h (All-take edge_small i n.edges m.1) (record { low = omega (arith, ints); high = omega (arith, ints) }) in
    let first : edge_small (get_or es i d) = subst (λ (xs : List EdgeType). edge_small (get_or xs i d)) (sym same) (m.1 i d (omega arith)) in
    let edge = edge_within eq (get_or es i d) h first in
    let few = m.0 in
    omega (arith, ints)

pub step_sum : (eq : Equation) (n : NodeType) (es : List EdgeType) (i : ℕ) (d : EdgeType) (sum edge next : Degree) → es ≡ n.edges → i < length es
    → sum ≡ standard (fold (λ s e. s +ℤ edge_regularity eq e) (pos 0) (take i n.edges)) → edge ≡ standard (edge_regularity eq (get_or es i d)) → next ≡ degree_plus sum edge
    → next ≡ standard (fold (λ s e. s +ℤ edge_regularity eq e) (pos 0) (take (i + 1) n.edges))
step_sum eq n es i d sum edge next same lt before now step =
    let here : length es ≡ length n.edges = ap length same in
    let read : edge_regularity eq (get_or es i d) ≡ edge_regularity eq (get_or n.edges i d) = ap (λ (xs : List EdgeType). edge_regularity eq (get_or xs i d)) same in
    let so_far = fold (plus_edge eq) (pos 0) (take i n.edges) in
    step ∙ ap (λ (s : Degree). degree_plus s edge) before ∙ ap (degree_plus (standard so_far)) (now ∙ ap standard read) ∙ ap standard (sym (fold_more (plus_edge eq) (pos 0) n.edges i d (omega arith)))
