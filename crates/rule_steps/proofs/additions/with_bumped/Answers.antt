use Rattle.std.proofs.Common.{◌≡◌, rules}
use Rattle.normal_rule.specs.declared.rule.RuleRefusal.TheVariants.{RuleTooLarge}
use Rattle.rule_steps.specs.Choices.{IsWithBumped}
use Rattle.rule_steps.specs.Sets.{IsSetOf, HasMany}
use Rattle.rule_steps.proofs.BumpedSets.{with_larger, with_many, with_set}
use Rattle.rule_steps.proofs.additions.with_bumped.Goals as goal

pub returns-in_err-found-clause-large : goal.returns-in_err-found-clause-large
returns-in_err-found-clause-large c =
    let more : c.in_err-found.field-0.0 ≡ RuleTooLarge → HasMany (IsWithBumped c.args.direction c.args.nodes.items) =
    λ e. with_larger c.args.direction c.args.nodes.items c.as_slice.result.now c.as_slice.ensures.value (c.in_err-found.ensures.large e) in
    search rules

pub returns-in_err-put_few-clause-large : goal.returns-in_err-put_few-clause-large
returns-in_err-put_few-clause-large c =
    let more : c.in_err-put_few.field-0.0 ≡ RuleTooLarge → HasMany (IsWithBumped c.args.direction c.args.nodes.items) =
    λ e. with_many c.args.direction c.args.nodes.items c.as_slice.result.now c.as_slice.ensures.value c.in_ok-found.found.keys c.in_ok-found.ensures.set (c.in_err-put_few.ensures.large e) in
    search rules

pub returns-clause-set : goal.returns-clause-set
returns-clause-set c =
    let set : IsSetOf (IsWithBumped c.args.direction c.args.nodes.items) c.put_few.new.into.keys =
    with_set c.args.direction c.args.nodes.items c.as_slice.result.now c.as_slice.ensures.value c.in_ok-found.found.keys c.put_few.new.into.keys c.in_ok-found.ensures.set c.in_ok-put_few.ensures.new in
    search rules
