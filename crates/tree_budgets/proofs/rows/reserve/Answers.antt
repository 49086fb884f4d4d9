use Rattle.std.proofs.Common.{◌≡◌, ◌⊎◌, List, map, take, ap, ◌∙◌, subst}
use Rattle.std.proofs.lemmas.List.{take_all}
use Rattle.normal_rule.specs.declared.EdgeType.{EdgeType}
use Rattle.normal_rule.specs.declared.NodeType.{NodeType}
use Rattle.conforming_trees.specs.Conforming.{EdgeLabel, label, labels}
use Rattle.tree_budgets.specs.Fronts.{IsFrontLow, IsFrontLeast}
use Rattle.tree_budgets.proofs.Reserves.{IsLeastSoFar, least_more, least_is_reserve}
use Rattle.tree_budgets.proofs.rows.reserve.Goals as goal

pub loop-longer-preserved : goal.loop-longer-preserved
loop-longer-preserved c =
    let ty = c.args.eq.now.types in
    let d = c.loop-longer.least in
    let e = c.least_with-least.result in
    let es : map label c.as_slice.result.now ≡ labels c.args.node.now = ap (λ (xs : List EdgeType). map label xs) c.as_slice.ensures in
    least_more ty c.args.lows.now c.args.row.now (labels c.args.node.now) c.requires.equation.types c.requires.lows c.as_slice-longer-items.result.now c.loop-longer.longer-index c.longer-item.result _ d e
    c.loop-longer-test.true c.longer-item.is c.as_slice-longer-items.ensures c.loop-longer.invariant c.least_with-least.ensures.lower
    (subst (λ (ls : List EdgeLabel). IsFrontLeast ty c.args.lows.now ls e c.longer-item.result) es c.least_with-least.ensures.node)
    (subst (λ (ls : List EdgeLabel). (e ≡ d) ⊎ IsFrontLow ty c.args.lows.now c.longer-item.result ls e) es c.least_with-least.ensures.is)

pub returns-clause-reserve : goal.returns-clause-reserve
returns-clause-reserve c =
    let all : take c.loop-longer.longer-index c.as_slice-longer-items.result.now ≡ c.args.row.now.nodes =
    take_all c.loop-longer.longer-index c.as_slice-longer-items.result.now c.loop-longer-test.false ∙ c.as_slice-longer-items.ensures in
    least_is_reserve c.args.eq.now c.args.lows.now c.args.row.now (labels c.args.node.now) c.loop-longer.least
    (subst (λ (ns : List NodeType). IsLeastSoFar c.args.eq.now.types c.args.lows.now c.args.row.now (labels c.args.node.now) ns c.loop-longer.least) all c.loop-longer.invariant)
