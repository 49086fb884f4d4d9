use Rattle.std.proofs.Common.{◌≡◌, ◌+ℤ◌, ◌∙◌, ap, arith, not, pos}
use Rattle.std.proofs.lemmas.Int.{ints}
use Rattle.degree_numbers.specs.declared.degree.Degree.{Degree}
use Rattle.degree_numbers.specs.declared.types.Types.{Types}
use Rattle.degree_numbers.specs.Types.{size_in_units}
use Rattle.plain_trees.specs.Degree.{degree_of}
use Rattle.plain_trees.specs.Joined.{raised}
use Rattle.tree_pool.specs.Content.{tree_at}
use Rattle.tree_cuttings.proofs.Degrees.{degree_raised}
use Rattle.pooled_cuttings.proofs.Degrees.{pool_degree, low_goal, shift_within}
use Rattle.pooled_cuttings.proofs.steps.is_low_raised.Goals as goal

pub sum_of-whole-requires : goal.sum_of-whole-requires
sum_of-whole-requires c =
    let d = pool_degree c.args.pool.now c.args.part.0 c.laws.ensures c.requires.part in
    let s = shift_within c.types.result.now c.args.s.now.entries c.types.ensures.accepted c.requires.small in
    let part = ap (λ (x : Degree). x.a) c.degree.ensures in
    omega (arith, ints, d, s, part, c.shift_size.ensures)

pub returns : goal.returns
returns c =
    let size = c.shift_size.ensures ∙ ap (λ (ty : Types). pos (size_in_units ty c.args.s.now.entries)) c.types.ensures.types in
    let part = ap (λ (x : Degree). x.a) c.degree.ensures in
    let sum = degree_raised c.args.pool.now.types c.args.s.now.entries (tree_at c.args.pool.now c.args.part.0) in
    let whole = degree_of c.args.pool.now.types (raised c.args.s.now.entries (tree_at c.args.pool.now c.args.part.0)) in
    low_goal c.is_gt.result c.cmp.result _ whole.a c.args.step.now.most c.is_gt.ensures c.cmp.ensures
    (omega (arith, ints, size, part, sum, c.sum_of-whole.ensures))
