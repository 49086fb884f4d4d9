use Rattle.std.proofs.Common.{map, sym, refl, ◌∙◌}
use Rattle.conforming_trees.specs.Conforming.{label}
use Rattle.tree_budgets.proofs.FrontLaws.{usable_front, front_least, no_front, least_lower}
use Rattle.tree_budgets.proofs.fronts.least_with.Goals as goal

pub lows_of-requires-clause-usable : goal.lows_of-requires-clause-usable
lows_of-requires-clause-usable c = usable_front c.as_slice-edges.result.now c.in-Some.front.now c.args.end.now (c.if-not-is_usable.ensures.0 refl) c.in-Some.ensures

pub returns-in-Some-clause-node : goal.returns-in-Some-clause-node
returns-in-Some-clause-node c =
    least_lower c.args.types.now c.args.lows.now (map label c.args.end.now) c.lows_of.result c.lesser.result c.args.node.now c.lesser.ensures.e
    (front_least c.args.types.now c.args.lows.now c.args.node.now c.args.end.now c.in-Some.front.now c.lows_of.result (sym c.as_slice-edges.ensures ∙ c.in-Some.ensures) c.lows_of.ensures)

pub returns-in-None-clause-node : goal.returns-in-None-clause-node
returns-in-None-clause-node c =
    no_front c.args.types.now c.args.lows.now c.args.node.now c.args.end.now c.args.least (λ f h. c.in-None.ensures f (c.as_slice-edges.ensures ∙ h))
