use Rattle.std.proofs.Common.{ap, arith}
use Rattle.std.proofs.lemmas.Int.{ints, clamps}
use Rattle.degree_numbers.specs.declared.degree.Degree.{Degree}
use Rattle.plain_trees.proofs.DegreeBounds.{small_edge_a}
use Rattle.coefficient_bounds.proofs.sums.missed.Goals as goal

pub overflow_add-taken : goal.overflow_add-taken
overflow_add-taken c =
    let e = small_edge_a c.args.types.now c.args.kind.0 c.args.p.now.entries c.requires.types
    c.requires.small in
    let a = c.requires.within.low in
    rw (c.edge_degree-edge.ensures) (omega (arith, ints, e, a))

pub returns : goal.returns
returns c = λ d above.
    let e = small_edge_a c.args.types.now c.args.kind.0 c.args.p.now.entries c.requires.types
    c.requires.small in
    let a = c.requires.within.low in
    let edge = ap (λ (d : Degree). d.a) c.edge_degree-edge.ensures in
    let least = c.min.ensures.value in
    let value = c.unsigned_abs.ensures.value in
    let low = above.low in
    omega (arith, ints, clamps, e, a, edge, least, value, low)
