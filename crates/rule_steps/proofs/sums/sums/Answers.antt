use Rattle.std.proofs.Common.{rules, ◌≡◌}
use Rattle.normal_rule.specs.declared.rule.RuleRefusal.TheVariants.{RuleTooLarge}
use Rattle.rule_steps.specs.Sets.{HasMany, IsSumOf}
use Rattle.rule_steps.proofs.SumSets.{sums_step, sums_many}
use Rattle.rule_steps.proofs.sums.sums.Goals as goal

pub returns-in_err-put_few-clause-large : goal.returns-in_err-put_few-clause-large
returns-in_err-put_few-clause-large c =
    let more : c.in_err-put_few.field-0.0 ≡ RuleTooLarge → HasMany (IsSumOf c.args.xs.now c.args.ys.now) =
    λ e. sums_many c.args.xs.now c.args.ys.now c.loop-x.all.keys c.in_ok-with_each.field-0.items c.loop-x.x-index c.x-item.result c.loop-x-test.true c.x-item.is c.in_ok-with_each.ensures c.loop-x.invariant (c.in_err-put_few.ensures.large e) in
    search rules

pub loop-x-preserved : goal.loop-x-preserved
loop-x-preserved c =
    sums_step c.args.xs.now c.args.ys.now c.loop-x.all.keys c.in_ok-with_each.field-0.items c.put_few.new.into.keys c.loop-x.x-index c.x-item.result c.loop-x-test.true c.x-item.is c.in_ok-with_each.ensures c.in_ok-put_few.ensures.new c.loop-x.invariant
