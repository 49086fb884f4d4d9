use Rattle.std.proofs.Common.{◌≡◌, ap, arith, ◌+ℤ◌, ◌∙◌}
use Rattle.std.proofs.lemmas.Int.{ints}
use Rattle.degree_numbers.specs.declared.degree.Degree.{Degree}
use Rattle.plain_trees.proofs.DegreeBounds.{small_edge_a, small_edge_b}
use Rattle.pooled_cuttings.proofs.Degrees.{pool_degree}
use Rattle.pooled_cuttings.proofs.RightFitting.{pool_degree_b}
use Rattle.pooled_cuttings.proofs.right_shifts.branch_degree.Goals as goal

pub plus-requires-clause-a_fits : goal.plus-requires-clause-a_fits
plus-requires-clause-a_fits c =
    let e = small_edge_a c.types.result.now c.args.edge.now.kind.0 c.args.edge.now.p.entries c.types.ensures.accepted c.requires.edge.small in
    let d = pool_degree c.args.pool.now c.args.edge.now.child.0 c.laws.ensures c.requires.edge.child in
    let edge = ap (λ (x : Degree). x.a) c.edge_degree.ensures in
    let above = ap (λ (x : Degree). x.a) c.degree.ensures in
    omega (arith, ints, e, d, edge, above)

pub plus-requires-clause-b_fits : goal.plus-requires-clause-b_fits
plus-requires-clause-b_fits c =
    let e = small_edge_b c.types.result.now c.args.edge.now.kind.0 c.args.edge.now.p.entries c.types.ensures.accepted in
    let d = pool_degree_b c.args.pool.now c.args.edge.now.child.0 c.laws.ensures c.requires.edge.child in
    let edge = ap (λ (x : Degree). x.b) c.edge_degree.ensures in
    let above = ap (λ (x : Degree). x.b) c.degree.ensures in
    omega (arith, ints, e, d, edge, above)

pub returns-clause-within : goal.returns-clause-within
returns-clause-within c =
    let e = small_edge_a c.types.result.now c.args.edge.now.kind.0 c.args.edge.now.p.entries c.types.ensures.accepted c.requires.edge.small in
    let d = pool_degree c.args.pool.now c.args.edge.now.child.0 c.laws.ensures c.requires.edge.child in
    let edge = ap (λ (x : Degree). x.a) c.edge_degree.ensures in
    let above = ap (λ (x : Degree). x.a) c.degree.ensures in
    let whole = ap (λ (x : Degree). x.a) c.plus.ensures in
    record { low = omega (arith, ints, e, d, edge, above, whole); high = omega (arith, ints, e, d, edge, above, whole) }
