use Rattle.std.proofs.Common.{◌≡◌, ℤ, pos, ◌+ℤ◌, ◌∙◌, ap, arith}
use Rattle.std.specs.Int.{int_min}
use Rattle.std.proofs.lemmas.Int.{ints, clamps}
use Rattle.degree_numbers.specs.declared.degree.Degree.{Degree}
use Rattle.plain_trees.specs.Plain.{graft}
use Rattle.plain_trees.specs.Degree.{edge_degree_of}
use Rattle.plain_trees.proofs.DegreeBounds.{small_edge_a}
use Rattle.cutting_sizes.specs.Lows.{low, lowest}
use Rattle.cutting_tables.proofs.LowBounds.{low_made, lowest_made}
use Rattle.cutting_tables.proofs.lows.Lows.with_edge.Goals as goal

pub sum_of-taken-requires : goal.sum_of-taken-requires
sum_of-taken-requires c =
    let e = small_edge_a c.args.types.now c.args.kind.0 c.args.p.now.entries c.requires.types c.requires.small in
    let a = c.requires.within_above.low in
    rw (c.edge_degree-edge.ensures) (omega (arith, ints, e, a))

pub sum_of-low-requires : goal.sum_of-low-requires
sum_of-low-requires c =
    let e = small_edge_a c.args.types.now c.args.kind.0 c.args.p.now.entries c.requires.types c.requires.small in
    let a = c.requires.within_above.low in
    let s = c.requires.within.low in
    let edge = ap (λ (d : Degree). d.a) c.edge_degree-edge.ensures in
    let taken = c.sum_of-taken.ensures in
    let least = c.min.ensures.value in
    omega (arith, ints, clamps, e, a, s, edge, taken, least)

pub returns : goal.returns
returns c = λ d t above here.
    let x = c.args.self.now in
    let y = c.args.above.now in
    let edge = ap (λ (d : Degree). d.a) c.edge_degree-edge.ensures in
    let taken : c.sum_of-taken.result ≡ c.edge_degree-edge.result.a +ℤ y.low = omega (arith, ints, c.sum_of-taken.ensures) in
    let least : c.min.result ≡ int_min c.sum_of-taken.result (pos 0) = omega (arith, ints, clamps, c.min.ensures.value) in
    let whole : c.sum_of-low.result ≡ c.min.result +ℤ x.low = omega (arith, ints, c.sum_of-low.ensures) in
    let rest : c.min-rest.result ≡ int_min y.lowest x.lowest = omega (arith, ints, clamps, c.min-rest.ensures.value) in
    let last : c.min-2.result ≡ int_min c.sum_of-low.result c.min-rest.result = omega (arith, ints, clamps, c.min-2.ensures.value) in
    let ty = c.args.types.now in
    let k = c.args.kind.0 in
    let p = c.args.p.now.entries in
    let e = (edge_degree_of ty k p).a in
    let step : c.sum_of-taken.result ≡ e +ℤ y.low = taken ∙ ap (λ (z : ℤ). z +ℤ y.low) edge in
    let is_low : c.sum_of-low.result ≡ low ty (graft k p d t) = low_made e y.low x.low c.sum_of-taken.result c.min.result c.sum_of-low.result (low ty d)
    (low ty t) step least whole above.low here.low in
    let is_lowest : c.min-2.result ≡ lowest ty (graft k p d t) =
    lowest_made (low ty (graft k p d t)) c.sum_of-low.result c.min-rest.result c.min-2.result y.lowest x.lowest (lowest ty d) (lowest ty t) last is_low rest
    above.lowest here.lowest in
    record { low = omega (arith, ints, is_low); lowest = omega (arith, ints, is_lowest) }
