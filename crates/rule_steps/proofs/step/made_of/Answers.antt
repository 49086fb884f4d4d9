use Rattle.std.proofs.Common.{rules, ◌≡◌, arith}
use Rattle.std.proofs.lemmas.Bool.Decides.{nat_tests}
use Rattle.std.proofs.lemmas.Result.{IfOk-weaker, IfErr-weaker}
use Rattle.tree_pool.specs.Content.{tree_at}
use Rattle.normal_rule.specs.declared.rule.RuleRefusal.TheVariants.{RuleTooLarge}
use Rattle.rule_steps.specs.Sets.{HasMany}
use Rattle.rule_steps.specs.Steps.{IsMadeOf}
use Rattle.rule_steps.proofs.StepsFound.{many_at, many_above, many_sums, sums_made, none_made}
use Rattle.rule_steps.proofs.step.made_of.Goals as goal

pub returns-in_err-at-clause-large : goal.returns-in_err-at-clause-large
returns-in_err-at-clause-large c =
    let more : c.in_err-at.field-0.0 ≡ RuleTooLarge → HasMany (IsMadeOf c.args.eq.now.types c.args.rule.now c.args.kernel.0 (tree_at c.args.pool.now c.args.id.0)) =
    λ e. many_at c.args.eq.now c.args.rule.now c.requires.equation c.requires.rule c.args.kernel.0 (tree_at c.args.pool.now c.args.id.0) c.requires.kernel c.requires.conforms (c.in_err-at.ensures.large e) in
    search rules

pub returns-then-is_empty-clause-set : goal.returns-then-is_empty-clause-set
returns-then-is_empty-clause-set c =
    none_made c.args.eq.now c.args.rule.now c.requires.equation c.requires.rule c.args.kernel.0 (tree_at c.args.pool.now c.args.id.0) c.requires.kernel c.requires.conforms c.in_ok-at.at.items (grind (arith, nat_tests, c.is_empty.ensures, c.if-is_empty.true)) c.in_ok-at.ensures.set

pub returns-in_err-above-clause-large : goal.returns-in_err-above-clause-large
returns-in_err-above-clause-large c =
    let more : c.in_err-above.field-0.0 ≡ RuleTooLarge → HasMany (IsMadeOf c.args.eq.now.types c.args.rule.now c.args.kernel.0 (tree_at c.args.pool.now c.args.id.0)) =
    λ e. many_above c.args.eq.now c.args.rule.now c.requires.equation c.requires.rule c.args.kernel.0 (tree_at c.args.pool.now c.args.id.0) c.requires.kernel c.requires.conforms c.in_ok-at.at.items (grind (arith, nat_tests, c.is_empty.ensures, c.if-is_empty.false)) c.in_ok-at.ensures.set (c.in_err-above.ensures.large e) in
    search rules

pub sums_with-requires : goal.sums_with-requires
sums_with-requires c = c.in_ok-above.ensures.set.ascending

pub returns-clause-set : goal.returns-clause-set
returns-clause-set c =
    IfOk-weaker c.sums_with.result _ _
    (λ v set. sums_made c.args.eq.now c.args.rule.now c.requires.equation c.requires.rule c.args.kernel.0 (tree_at c.args.pool.now c.args.id.0) c.requires.kernel c.requires.conforms c.in_ok-at.at.items c.in_ok-above.above.items v.items c.in_ok-at.ensures.set c.in_ok-above.ensures.set
    (rw c.as_slice.ensures.value at set))
    c.sums_with.ensures.set

pub returns-clause-large : goal.returns-clause-large
returns-clause-large c =
    IfErr-weaker c.sums_with.result _ _
    (λ e large is. many_sums c.args.eq.now c.args.rule.now c.requires.equation c.requires.rule c.args.kernel.0 (tree_at c.args.pool.now c.args.id.0) c.requires.kernel c.requires.conforms c.in_ok-at.at.items c.in_ok-above.above.items c.in_ok-at.ensures.set c.in_ok-above.ensures.set
    (rw c.as_slice.ensures.value at (large is)))
    c.sums_with.ensures.large
