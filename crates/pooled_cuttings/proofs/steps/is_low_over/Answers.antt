use Rattle.std.proofs.Common.{◌≡◌, ◌+ℤ◌, ◌∙◌, ap, arith, not}
use Rattle.std.proofs.lemmas.Int.{ints}
use Rattle.degree_numbers.specs.declared.degree.Degree.{Degree}
use Rattle.degree_numbers.specs.declared.types.Types.{Types}
use Rattle.plain_trees.specs.Degree.{edge_degree_of, degree_of}
use Rattle.plain_trees.specs.Plain.{graft}
use Rattle.tree_pool.specs.Content.{tree_at}
use Rattle.plain_trees.proofs.DegreeBounds.{small_edge_a}
use Rattle.pooled_cuttings.proofs.Degrees.{pool_degree, low_goal}
use Rattle.pooled_cuttings.proofs.steps.is_low_over.Goals as goal

pub sum_of-branch-requires : goal.sum_of-branch-requires
sum_of-branch-requires c =
    let e = small_edge_a c.types.result.now c.args.step.now.kind.0 c.args.step.now.p.entries c.types.ensures.accepted c.requires.step.small in
    let d = pool_degree c.args.pool.now c.args.above.0 c.laws.ensures c.requires.above in
    let edge = ap (λ (x : Degree). x.a) c.edge_degree-edge.ensures in
    let above = ap (λ (x : Degree). x.a) c.degree.ensures in
    omega (arith, ints, e, d, edge, above)

pub sum_of-whole-requires : goal.sum_of-whole-requires
sum_of-whole-requires c =
    let e = small_edge_a c.types.result.now c.args.step.now.kind.0 c.args.step.now.p.entries c.types.ensures.accepted c.requires.step.small in
    let d = pool_degree c.args.pool.now c.args.above.0 c.laws.ensures c.requires.above in
    let r = pool_degree c.args.pool.now c.args.rest.0 c.laws.ensures c.requires.rest in
    let edge = ap (λ (x : Degree). x.a) c.edge_degree-edge.ensures in
    let above = ap (λ (x : Degree). x.a) c.degree.ensures in
    let rest = ap (λ (x : Degree). x.a) c.degree-2.ensures in
    omega (arith, ints, e, d, r, edge, above, rest, c.sum_of-branch.ensures)

pub returns : goal.returns
returns c =
    let edge = ap (λ (x : Degree). x.a) (c.edge_degree-edge.ensures ∙ ap (λ (ty : Types). edge_degree_of ty c.args.step.now.kind.0 c.args.step.now.p.entries) c.types.ensures.types) in
    let above = ap (λ (x : Degree). x.a) c.degree.ensures in
    let rest = ap (λ (x : Degree). x.a) c.degree-2.ensures in
    let whole = degree_of c.args.pool.now.types (graft c.args.step.now.kind.0 c.args.step.now.p.entries (tree_at c.args.pool.now c.args.above.0) (tree_at c.args.pool.now c.args.rest.0)) in
    low_goal c.is_gt.result c.cmp.result _ whole.a c.args.step.now.most c.is_gt.ensures c.cmp.ensures
    (omega (arith, ints, edge, above, rest, c.sum_of-branch.ensures, c.sum_of-whole.ensures))
