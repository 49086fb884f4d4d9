-- The degree of a small tree is small.
use Rattle.std.proofs.Common.{◌≡◌, ℕ, ◌+◌, ◌*◌, ◌<◌, ◌≤◌, ℤ, ◌+ℤ◌, List, [], ◌∷◌, sum, arith, map, FitsSigned, w64, unsigned_abs, length, get_or, refl, drop}
use Rattle.std.specs.List.{AllByRecursion}
use Rattle.std.proofs.lemmas.Int.{ints}
use Rattle.std.proofs.lemmas.Grind.{common_steps}
use Rattle.std.proofs.lemmas.Option.{slice_get-get_or}
use Rattle.degree_numbers.specs.declared.types.Types.{Types}
use Rattle.degree_numbers.specs.declared.types.TypeEntry.{TypeEntry}
use Rattle.degree_numbers.specs.declared.degree.Degree.{Degree}
use Rattle.degree_numbers.specs.Degree.{degree_plus, IsWithin}
use Rattle.degree_numbers.specs.Multi.{scaled_size}
use Rattle.degree_numbers.specs.Types.{AreTypes, type_degree, size_in_units}
use Rattle.degree_numbers.proofs.ScaledSizes.{scaled_size_most}
use Rattle.degree_numbers.proofs.TypeBounds.{scaling_within, type_a_within, type_b_within}
use Rattle.plain_trees.specs.declared.tree.Edge.{Edge, out-Edge, fold_out-Edge}
use Rattle.plain_trees.specs.Plain.{Plain, bare, graft, edge_count_of, decoration_sum_of, IsSmall}
use Rattle.std.proofs.lemmas.Nat.{mul-le}
use Rattle.plain_trees.specs.Degree.{derivative_degree_of, edge_degree_of, degree_of}
use Rattle.plain_trees.specs.View.{Labelled, labelled_at, plain_at, grafted, labelled, plain}

abbrev pub a_bound : Plain → ℕ
a_bound t = edge_count_of t * 20000000 + decoration_sum_of t * 10000000

abbrev pub b_bound : Plain → ℕ
b_bound t = edge_count_of t * 20000000

pub scaling_most : (ty : Types) → AreTypes ty → AllByRecursion (λ s. s ≤ 10) ty.scaling
scaling_most = scaling_within

pub units_most : (ty : Types) → AreTypes ty → unsigned_abs ty.units.den ≤ 1000000
units_most ty h = let most = h.den_most in let above = h.den_above in omega (arith, ints)

sized : (ty : Types) (m : List ℕ) → AreTypes ty → size_in_units ty m ≤ 10000000 * sum m
sized ty m h =
    let s = scaled_size_most ty.scaling m (scaling_within ty h) in
    let product = mul-le (unsigned_abs ty.units.den) (scaled_size ty.scaling m) 1000000 (10 * sum m) (units_most ty h) s in
    omega (arith, product)

-- the product of the common denominator and a scaled size that is at most this
pub product_most : (ty : Types) (size n : ℕ) → AreTypes ty → size ≤ 10 * n → n ≤ 4096 → unsigned_abs ty.units.den * size ≤ 40960000000
product_most ty size n h s b = let product = mul-le (unsigned_abs ty.units.den) size 1000000 40960 (units_most ty h) (omega (arith, s, b)) in omega (arith, product)

pub size_most : (ty : Types) (m : List ℕ) → AreTypes ty → sum m ≤ 4096 → size_in_units ty m ≤ 40960000000
size_most ty m h s = let w = sized ty m h in omega (arith, w)

pub a_within : (ty : Types) (t : Plain) → AreTypes ty → IsWithin (degree_of ty t).a (a_bound t)
a_within ty (bare n) h = let w = sized ty n h in record { low = omega (arith, ints); high = omega (arith, ints) }
a_within ty (graft k p c t) h =
    let w = sized ty p h in
    let d = type_a_within ty k h in
    let below = a_within ty c h in
    let rest = a_within ty t h in
    record { low = omega (arith, ints); high = omega (arith, ints) }

pub b_within : (ty : Types) (t : Plain) → AreTypes ty → IsWithin (degree_of ty t).b (b_bound t)
b_within ty (bare n) h = record { low = omega (arith, ints); high = omega (arith, ints) }
b_within ty (graft k p c t) h =
    let d = type_b_within ty k h in
    let below = b_within ty c h in
    let rest = b_within ty t h in
    record { low = omega (arith, ints); high = omega (arith, ints) }

-- a sum of small numbers fits
pub sum_fits : (x y : ℤ) (m n : ℕ) → IsWithin x m → IsWithin y n → m + n ≤ 1000000000000000 → FitsSigned w64 (x +ℤ y)
sum_fits x y m n hx hy h = omega (arith, ints)

-- the entry of a type in the list
pub type_degree_at : (ty : Types) (k : ℕ) (d : TypeEntry) → k < length ty.list → (get_or ty.list k d).degree ≡ type_degree ty k
type_degree_at ty k d h = let there = slice_get-get_or ty.list k d h in rw there refl

-- more than the parts of any degree of a small tree
abbrev pub limit : ℕ
limit = 100000000000

pub small_a : (ty : Types) (t : Plain) → AreTypes ty → IsSmall t → IsWithin (degree_of ty t).a limit
small_a ty t h s = let w = a_within ty t h in let e = s.edges in let d = s.decorations in record { low = omega (arith, ints); high = omega (arith, ints) }

pub small_b : (ty : Types) (t : Plain) → AreTypes ty → IsSmall t → IsWithin (degree_of ty t).b limit
small_b ty t h s = let w = b_within ty t h in let e = s.edges in record { low = omega (arith, ints); high = omega (arith, ints) }

pub small_edge_a : (ty : Types) (k : ℕ) (p : List ℕ) → AreTypes ty → sum p ≤ 4096 → IsWithin (edge_degree_of ty k p).a limit
small_edge_a ty k p h s = let w = sized ty p h in let d = type_a_within ty k h in record { low = omega (arith, ints); high = omega (arith, ints) }

pub small_edge_b : (ty : Types) (k : ℕ) (p : List ℕ) → AreTypes ty → IsWithin (edge_degree_of ty k p).b limit
small_edge_b ty k p h = let d = type_b_within ty k h in record { low = omega (arith, ints); high = omega (arith, ints) }

-- the parts of a small tree
pub record AreSmallParts (p : List ℕ) (c t : Plain) : Type 0 where
  pub decoration : sum p ≤ 4096
  pub child : IsSmall c
  pub rest : IsSmall t

pub small_parts : (k : ℕ) (p : List ℕ) (c t : Plain) → IsSmall (graft k p c t) → AreSmallParts p c t
small_parts k p c t s =
    let e = s.edges in
    let d = s.decorations in
    record {
      decoration = omega (arith, e, d);
      child = record { edges = omega (arith, e, d); decorations = omega (arith, e, d) };
      rest = record { edges = omega (arith, e, d); decorations = omega (arith, e, d) };
    }

-- a part and an edge with what is above it, where part, edge and rest make the whole
pub step_fits : (x e c : ℤ) (r w : ℤ) → IsWithin e limit → IsWithin c limit → IsWithin r limit → IsWithin w limit → x +ℤ ((e +ℤ c) +ℤ r) ≡ w →
    FitsSigned w64 (x +ℤ (e +ℤ c))
step_fits x e c r w he hc hr hw s = omega (arith, ints)

-- the first of the edges that are left
pub cut_at : (n : List ℕ) (xs : List Edge) (i : ℕ) (x : Edge) → i < length xs → x ≡ get_or xs i x →
    grafted n (map labelled (drop i xs)) ≡ graft (out-Edge x).kind.0 (out-Edge x).p.entries (plain (out-Edge x).child) (grafted n (map labelled (drop (i + 1) xs)))
cut_at n xs i x h at =
    let first : drop i xs ≡ x ∷ drop (i + 1) xs = grind (arith, common_steps) in
    rw (first, fold_out-Edge Labelled Plain labelled_at plain_at x) refl

pub within_fits : (z : ℤ) → IsWithin z limit → FitsSigned w64 z
within_fits z h = omega (arith, ints)

abbrev degree_made : ℤ → ℤ → Degree
degree_made a b = record { a = a; b = b }

pub degree_assoc : (x y z : Degree) → degree_plus (degree_plus x y) z ≡ degree_plus x (degree_plus y z)
degree_assoc x y z =
    let a : (x.a +ℤ y.a) +ℤ z.a ≡ x.a +ℤ (y.a +ℤ z.a) = omega (arith, ints) in
    let b : (x.b +ℤ y.b) +ℤ z.b ≡ x.b +ℤ (y.b +ℤ z.b) = omega (arith, ints) in
    let e : degree_made ((x.a +ℤ y.a) +ℤ z.a) ((x.b +ℤ y.b) +ℤ z.b) ≡ degree_made (x.a +ℤ (y.a +ℤ z.a)) (x.b +ℤ (y.b +ℤ z.b)) = cc in
    e

pub none_left : (n : List ℕ) (xs : List Edge) (i : ℕ) → length xs ≤ i → grafted n (map labelled (drop i xs)) ≡ bare n
none_left n xs i h = let none : drop i xs ≡ [] = grind (arith, common_steps) in rw none refl

pub edge_a_fits : (ty : Types) (k : ℕ) (p : List ℕ) → AreTypes ty → sum p ≤ 4096 → FitsSigned w64 ((type_degree ty k).a +ℤ (derivative_degree_of ty p).a)
edge_a_fits ty k p h s = within_fits (edge_degree_of ty k p).a (small_edge_a ty k p h s)

pub edge_b_fits : (ty : Types) (k : ℕ) (p : List ℕ) → AreTypes ty → FitsSigned w64 ((type_degree ty k).b +ℤ (derivative_degree_of ty p).b)
edge_b_fits ty k p h = within_fits (edge_degree_of ty k p).b (small_edge_b ty k p h)
