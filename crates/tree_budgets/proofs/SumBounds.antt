-- How great the sums over the edge types of a usable node type are.
use Rattle.std.proofs.Common.{◌≡◌, ℕ, ◌+◌, ◌*◌, ◌≤◌, ◌+ℤ◌, List, [], ◌∷◌, length, map, take, drop, get_or, ◌-◌, sum, sym, ap, ◌∙◌, subst, arith, FitsSigned, w64}
use Rattle.std.proofs.Math.Seq.{take-length}
use Rattle.std.proofs.lemmas.Int.{ints}
use Rattle.degree_numbers.specs.declared.Degree.{Degree}
use Rattle.degree_numbers.specs.declared.Types.{Types}
use Rattle.degree_numbers.specs.Degree.{IsWithin, degree_plus}
use Rattle.degree_numbers.specs.Types.{AreTypes, type_degree}
use Rattle.degree_numbers.proofs.TypeBounds.{type_a_within, type_b_within}
use Rattle.plain_trees.specs.Degree.{derivative_degree_of}
use Rattle.plain_trees.proofs.DegreeBounds.{size_most}
use Rattle.normal_rule.specs.declared.EdgeType.{EdgeType}
use Rattle.conforming_trees.specs.Conforming.{EdgeLabel, label}
use Rattle.conforming_trees.specs.Budgets.{IsUsable, low_at, edge_low, lows_of}
use Rattle.tree_budgets.specs.Bounds.{IsModest, IsBounded, AreBounded}

-- both parts are at most n in size
pub record AreWithin (d : Degree) (n : ℕ) : Type 0 where
  pub a : IsWithin d.a n
  pub b : IsWithin d.b n

pub within_plus : (d e : Degree) (m n : ℕ) → AreWithin d m → AreWithin e n → AreWithin (degree_plus d e) (m + n)
within_plus d e m n h k =
    let ha = h.a in
    let hb = h.b in
    let ka = k.a in
    let kb = k.b in
    record { a = record { low = omega (arith, ints); high = omega (arith, ints) }; b = record { low = omega (arith, ints); high = omega (arith, ints) } }

pub within_more : (d : Degree) (m n : ℕ) → AreWithin d m → m ≤ n → AreWithin d n
within_more d m n h le =
    let ha = h.a in
    let hb = h.b in
    record { a = record { low = omega (arith, ints); high = omega (arith, ints) }; b = record { low = omega (arith, ints); high = omega (arith, ints) } }

pub bounded_within : (d : Degree) → IsBounded d → AreWithin d 1000000000
bounded_within d h = record { a = h.a; b = h.b }

pub loss_within : (ty : Types) (p : List ℕ) → AreTypes ty → sum p ≤ 64 → AreWithin (derivative_degree_of ty p) 40960000000
loss_within ty p h small =
    let size = size_most ty p h (omega (arith, small)) in
    record { a = record { low = omega (arith, ints); high = omega (arith, ints) }; b = record { low = omega (arith, ints); high = omega (arith, ints) } }

pub edge_low_within : (ty : Types) (lows : List Degree) (e : EdgeLabel) → AreTypes ty →
    AreBounded lows → sum e.1 ≤ 64 → AreWithin (edge_low ty lows e) 42000000000
edge_low_within ty lows e h b small =
    within_more (edge_low ty lows e) (1000000000 + 40960000000) 42000000000
    (within_plus (low_at lows e.0) (derivative_degree_of ty e.1) 1000000000 40960000000 (bounded_within (low_at lows e.0) (b e.0)) (loss_within ty e.1 h small)) (omega arith)

pub usable_first : (e : EdgeLabel) (es : List EdgeLabel) → IsUsable (e ∷ es) → sum e.1 ≤ 64
usable_first e es h = let d = h.derivatives in omega (arith, d)

pub usable_rest : (e : EdgeLabel) (es : List EdgeLabel) → IsUsable (e ∷ es) → IsUsable es
usable_rest e es h = let d = h.derivatives in let l = h.edges in record { edges = omega (arith, l); derivatives = omega (arith, d) }

lows_by_length : (ty : Types) (lows : List Degree) (es : List EdgeLabel) → AreTypes ty →
    AreBounded lows → IsUsable es → AreWithin (lows_of ty lows es) (42000000000 * length es)
lows_by_length ty lows [] h b u = record { a = record { low = omega (arith, ints); high = omega (arith, ints) }; b = record { low = omega (arith, ints); high = omega (arith, ints) } }
lows_by_length ty lows (e ∷ es) h b u =
    within_more (lows_of ty lows (e ∷ es)) (42000000000 + 42000000000 * length es) (42000000000 * length (e ∷ es))
    (within_plus (edge_low ty lows e) (lows_of ty lows es) 42000000000 (42000000000 * length es) (edge_low_within ty lows e h b (usable_first e es u)) (lows_by_length ty lows es h b (usable_rest e es u)))
    (omega arith)

pub lows_within : (ty : Types) (lows : List Degree) (es : List EdgeLabel) → AreTypes ty →
    AreBounded lows → IsUsable es → AreWithin (lows_of ty lows es) 1008000000000
lows_within ty lows es h b u = let l = u.edges in within_more (lows_of ty lows es) (42000000000 * length es) 1008000000000 (lows_by_length ty lows es h b u) (omega (arith, l))

pub type_within : (ty : Types) (k : ℕ) → AreTypes ty → AreWithin (type_degree ty k) 20000000
type_within ty k h = record { a = type_a_within ty k h; b = type_b_within ty k h }

-- sums of parts fit
pub modest_a_fits : (d e : Degree) → IsModest d → IsModest e → FitsSigned w64 (d.a +ℤ e.a)
modest_a_fits d e h k = let ha = h.a in let ka = k.a in omega (arith, ints)

pub modest_b_fits : (d e : Degree) → IsModest d → IsModest e → FitsSigned w64 (d.b +ℤ e.b)
modest_b_fits d e h k = let hb = h.b in let kb = k.b in omega (arith, ints)

modest : (d : Degree) (n : ℕ) → AreWithin d n → n ≤ 1000000000000000 → IsModest d
modest d n h le =
    let ha = h.a in
    let hb = h.b in
    record { a = record { low = omega (arith, ints); high = omega (arith, ints) }; b = record { low = omega (arith, ints); high = omega (arith, ints) } }

-- what is answered is small enough
pub low_modest : (lows : List Degree) (k : ℕ) (d : Degree) → AreBounded lows → d ≡ low_at lows k → IsModest d
low_modest lows k d h e = subst IsModest (sym e) (modest (low_at lows k) 1000000000 (bounded_within (low_at lows k) (h k)) (omega arith))

pub loss_modest : (ty : Types) (p : List ℕ) (d : Degree) → AreTypes ty → sum p ≤ 64 → d ≡ derivative_degree_of ty p → IsModest d
loss_modest ty p d h small e = subst IsModest (sym e) (modest (derivative_degree_of ty p) 40960000000 (loss_within ty p h small) (omega arith))

pub edge_low_modest : (ty : Types) (lows : List Degree) (e : EdgeLabel) (d : Degree) → AreTypes ty →
    AreBounded lows → sum e.1 ≤ 64 → d ≡ edge_low ty lows e → IsModest d
edge_low_modest ty lows e d h b small is = subst IsModest (sym is) (modest (edge_low ty lows e) 42000000000 (edge_low_within ty lows e h b small) (omega arith))

pub lows_modest : (ty : Types) (lows : List Degree) (es : List EdgeLabel) (d : Degree) →
    AreTypes ty → AreBounded lows → IsUsable es → d ≡ lows_of ty lows es → IsModest d
lows_modest ty lows es d h b u is = subst IsModest (sym is) (modest (lows_of ty lows es) 1008000000000 (lows_within ty lows es h b u) (omega arith))

pub type_modest : (ty : Types) (k : ℕ) (d : Degree) → AreTypes ty → d ≡ type_degree ty k → IsModest d
type_modest ty k d h is = subst IsModest (sym is) (modest (type_degree ty k) 20000000 (type_within ty k h) (omega arith))

-- the first edge type and those behind it, as a pattern takes a list apart
behind : (e : EdgeType) (es : List EdgeType) → take (length (e ∷ es) - 1) (drop 1 (e ∷ es)) ≡ es
behind e es = let n : length (e ∷ es) - 1 ≡ length es = omega arith in rw n (take-length es)

pub parts_modest : (ty : Types) (lows : List Degree) (edges : List EdgeType) (none : EdgeType) (x y : Degree) →
    1 ≤ length edges → AreTypes ty → AreBounded lows → IsUsable (map label edges) →
    x ≡ edge_low ty lows (label (get_or edges 0 none)) → y ≡ lows_of ty lows (map label (take (length edges - 1) (drop 1 edges))) → IsModest x × IsModest y
parts_modest ty lows [] none x y some h b u is rest = absurd (omega (arith, some))
parts_modest ty lows (e ∷ es) none x y some h b u is rest =
    (edge_low_modest ty lows (label e) x h b (usable_first (label e) (map label es) u) is, lows_modest ty lows (map label es) y h b (usable_rest (label e) (map label es) u) (rest ∙ ap (λ (fs : List EdgeType). lows_of ty lows (map label fs)) (behind e es)))

-- a sum of three fits
pub third_a_fits : (d e f : Degree) → IsBounded d → IsBounded e → IsModest f → FitsSigned w64 ((degree_plus d e).a +ℤ f.a)
third_a_fits d e f h k m = let ha = h.a in let ka = k.a in let ma = m.a in omega (arith, ints)

pub third_b_fits : (d e f : Degree) → IsBounded d → IsBounded e → IsModest f → FitsSigned w64 ((degree_plus d e).b +ℤ f.b)
third_b_fits d e f h k m = let hb = h.b in let kb = k.b in let mb = m.b in omega (arith, ints)
