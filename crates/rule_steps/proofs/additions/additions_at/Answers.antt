use Rattle.std.proofs.Common.{◌≡◌, map, rules}
use Rattle.std.proofs.lemmas.Result.{IfOk-weaker, IfErr-weaker}
use Rattle.normal_rule.specs.declared.rule.RuleRefusal.TheVariants.{RuleTooLarge}
use Rattle.conforming_trees.specs.Conforming.{label}
use Rattle.rule_steps.specs.Sets.{HasMany, IsAdditionTo}
use Rattle.rule_steps.proofs.AdditionSets.{options_many, are_choices, additions_set, additions_many}
use Rattle.rule_steps.proofs.additions.additions_at.Goals as goal

pub returns-in_err-choices-clause-large : goal.returns-in_err-choices-clause-large
returns-in_err-choices-clause-large c =
    let more : c.in_err-choices.field-0.0 ≡ RuleTooLarge → HasMany (IsAdditionTo c.args.eq.now.types c.args.rule.now c.args.kind.0 c.args.n.entries (map label c.args.edges.now)) =
    λ e. options_many c.args.eq.now c.args.rule.now c.requires.equation c.requires.rule c.requires.small c.args.kind.0 c.args.n.entries (map label c.args.edges.now) c.in_ok-options.field-0.items c.requires.directions c.in_ok-options.ensures (c.in_err-choices.ensures.large e) in
    search rules

pub raised_by-requires-clause-choices : goal.raised_by-requires-clause-choices
raised_by-requires-clause-choices c =
    are_choices c.args.eq.now c.args.rule.now c.requires.equation c.requires.rule c.requires.small c.args.kind.0 c.args.n.entries (map label c.args.edges.now) c.in_ok-options.field-0.items c.requires.directions c.in_ok-options.ensures c.in_ok-choices.choices.items c.in_ok-choices.ensures.set

pub returns-clause-set : goal.returns-clause-set
returns-clause-set c =
    IfOk-weaker c.raised_by.result _ _
    (λ v set. additions_set c.args.eq.now c.args.rule.now c.requires.equation c.requires.rule c.requires.small c.args.kind.0 c.args.n.entries (map label c.args.edges.now) c.in_ok-options.field-0.items c.requires.directions c.in_ok-options.ensures c.in_ok-choices.choices.items c.in_ok-choices.ensures.set v.items set)
    c.raised_by.ensures.set

pub returns-clause-large : goal.returns-clause-large
returns-clause-large c =
    IfErr-weaker c.raised_by.result _ _
    (λ e large is. additions_many c.args.eq.now c.args.rule.now c.requires.equation c.requires.rule c.requires.small c.args.kind.0 c.args.n.entries (map label c.args.edges.now) c.in_ok-options.field-0.items c.requires.directions c.in_ok-options.ensures c.in_ok-choices.choices.items c.in_ok-choices.ensures.set (large is))
    c.raised_by.ensures.large
