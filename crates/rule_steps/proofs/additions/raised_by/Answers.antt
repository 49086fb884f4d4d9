use Rattle.std.proofs.Common.{◌≡◌, rules, arith}
use Rattle.normal_rule.specs.declared.rule.RuleRefusal.TheVariants.{RuleTooLarge}
use Rattle.rule_steps.specs.Choices.{IsRaisedOf}
use Rattle.rule_steps.specs.Sets.{HasMany}
use Rattle.rule_steps.proofs.AdditionSets.{raised_start, raised_unit, raised_next, raised_end, raised_many, raised_small}
use Rattle.rule_steps.proofs.additions.raised_by.Goals as goal

pub loop-direction-init : goal.loop-direction-init
loop-direction-init c = raised_start c.args.nodes.items c.requires.choices c.args.n.entries c.requires.directions

pub with_bumped-requires-clause-small : goal.with_bumped-requires-clause-small
with_bumped-requires-clause-small c =
    raised_small c.args.nodes.items c.requires.choices c.args.n.entries c.requires.directions c.loop-direction.direction c.loop-unit._unit 0 c.loop-unit.found.items c.loop-direction-test.true c.loop-unit-test.true c.requires.decoration c.loop-unit.invariant

pub returns-in_err-found-clause-large : goal.returns-in_err-found-clause-large
returns-in_err-found-clause-large c =
    let more : c.in_err-found.field-0.0 ≡ RuleTooLarge → HasMany (IsRaisedOf c.args.n.entries c.args.nodes.items) =
    λ e. raised_many c.args.nodes.items c.requires.choices c.args.n.entries c.requires.directions c.loop-direction.direction c.loop-unit._unit 0 c.loop-unit.found.items c.loop-direction-test.true c.loop-unit-test.true c.loop-unit.invariant (c.in_err-found.ensures.large e) in
    search rules

pub loop-unit-preserved : goal.loop-unit-preserved
loop-unit-preserved c =
    raised_unit c.args.nodes.items c.requires.choices c.args.n.entries c.requires.directions c.loop-direction.direction c.loop-unit._unit c.loop-unit.found.items c.in_ok-found.found.items c.loop-direction-test.true c.loop-unit.invariant c.in_ok-found.ensures.set

pub loop-direction-preserved : goal.loop-direction-preserved
loop-direction-preserved c =
    raised_next c.args.nodes.items c.requires.choices c.args.n.entries c.requires.directions c.loop-direction.direction c.loop-unit._unit 0 c.loop-unit.found.items c.loop-direction-test.true (omega (arith, c.loop-unit-test.false, c.loop-unit.auto._unit-end)) c.loop-unit.invariant

pub returns-clause-set : goal.returns-clause-set
returns-clause-set c =
    raised_end c.args.nodes.items c.requires.choices c.args.n.entries c.requires.directions c.loop-direction.direction c.loop-direction.found.items c.loop-direction-test.false c.loop-direction.invariant
