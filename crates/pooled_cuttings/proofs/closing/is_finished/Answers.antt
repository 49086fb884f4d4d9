use Rattle.std.proofs.Common.{◌≡◌, ◌≤◌, ◌∙◌, ap, sym, arith, length, is_lt, true, false}
use Rattle.std.proofs.lemmas.Bool.Decides.{nat_tests}
use Rattle.degree_numbers.specs.declared.types.Types.{Types}
use Rattle.degree_numbers.specs.declared.degree.Degree.{Degree}
use Rattle.plain_trees.specs.Degree.{planted}
use Rattle.plain_trees.specs.Coproducts.{is_below_zero}
use Rattle.tree_pool.specs.Content.{tree_over}
use Rattle.pooled_cuttings.proofs.Finished.{not_without_edge, not_planted, by_degree}
use Rattle.pooled_cuttings.proofs.closing.is_finished.Goals as goal

pub returns-then-is_empty : goal.returns-then-is_empty
returns-then-is_empty c =
    let none : length c.node.result.1.now ≡ 0 = grind (arith, nat_tests, c.is_empty.ensures, c.if-is_empty.true) in
    not_without_edge c.args.pool.now c.args.part.0 c.node.result.0.entries c.node.result.1.now c.node.ensures.tree none

pub returns-then-is_planted : goal.returns-then-is_planted
returns-then-is_planted c =
    let ts = c.args.pool.now.trees in
    let test = sym c.if-is_planted.true ∙ c.is_planted.ensures ts ∙ ap (λ (ty : Types). planted ty (tree_over ts c.node.result.0.entries c.node.result.1.now)) c.types.ensures.types in
    not_planted c.args.pool.now c.args.part.0 c.node.result.0.entries c.node.result.1.now c.node.ensures.tree test

pub returns : goal.returns
returns c =
    let ts = c.args.pool.now.trees in
    let some : 1 ≤ length c.node.result.1.now = grind (arith, nat_tests, c.is_empty.ensures, c.if-is_empty.false) in
    let test = sym c.if-is_planted.false ∙ c.is_planted.ensures ts ∙ ap (λ (ty : Types). planted ty (tree_over ts c.node.result.0.entries c.node.result.1.now)) c.types.ensures.types in
    let below = c.is_lt.ensures ∙ ap is_lt c.order.ensures ∙ ap (λ (d : Degree). is_below_zero d) c.degree.ensures in
    by_degree c.args.pool.now c.args.part.0 c.node.result.0.entries c.node.result.1.now c.node.ensures.tree c.is_lt.result some test below
