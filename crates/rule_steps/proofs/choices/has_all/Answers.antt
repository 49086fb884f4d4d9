use Rattle.std.specs.Option.{is_some}
use Rattle.std.proofs.Common.{map}
use Rattle.conforming_trees.specs.Conforming.{label}
use Rattle.rule_steps.specs.Sums.{without}
use Rattle.rule_steps.proofs.ChoiceLists.{all_short, all_end}
use Rattle.rule_steps.proofs.choices.has_all.Goals as goal

pub returns-then-edges-others : goal.returns-then-edges-others
returns-then-edges-others c = all_short c.args.edges.now c.args.others.now c.if-edges-others.true

pub returns : goal.returns
returns c =
    let whole = is_some (without (map label c.args.edges.now) (map label c.args.others.now)) in
    all_end c.args.edges.now c.loop-e.rest.now c.loop-e.e-index c.is_empty.result whole c.loop-e-test.false c.is_empty.ensures c.loop-e.invariant
