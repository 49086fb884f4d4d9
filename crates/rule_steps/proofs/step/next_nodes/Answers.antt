use Rattle.std.proofs.Common.{rules, ◌≡◌}
use Rattle.std.proofs.lemmas.List.{get_or_default}
use Rattle.normal_rule.specs.declared.rule.RuleRefusal.TheVariants.{RuleTooLarge}
use Rattle.rule_stages.specs.Stages.{IsInNext}
use Rattle.rule_steps.specs.Sets.{IsSetOf, HasMany}
use Rattle.rule_steps.proofs.StepsWalk.{kernel_kind, tree_conforms, found_first, found_step, found_last, many_first, many_made, many_put}
use Rattle.rule_steps.proofs.step.next_nodes.Goals as goal

pub returns-in_err-put_few-clause-large : goal.returns-in_err-put_few-clause-large
returns-in_err-put_few-clause-large c =
    let more : c.in_err-put_few.field-0.0 ≡ RuleTooLarge → HasMany (IsInNext c.args.eq.now c.args.rule.now c.args.row.now.kernel.0) =
    λ e. many_first c.args.eq.now c.args.rule.now c.requires.equation c.requires.rule c.args.row.now c.requires.row c.args.pool.now c.args.trees.now c.requires.listed c.as_slice.result.now c.in_ok-copies.field-0.items c.new-nodes.result.keys c.as_slice.ensures c.in_ok-copies.ensures c.new-nodes.ensures.empty (c.in_err-put_few.ensures.large e) in
    search rules

pub loop-id-init : goal.loop-id-init
loop-id-init c = record {
  set = found_first c.args.eq.now c.args.rule.now c.requires.equation c.requires.rule c.args.row.now c.requires.row c.as_slice.result.now c.in_ok-copies.field-0.items c.new-nodes.result.keys c.put_few.new.into.keys c.as_slice.ensures c.in_ok-copies.ensures c.new-nodes.ensures.empty c.in_ok-put_few.ensures.new;
  few = c.in_ok-put_few.ensures.few;
}

pub made_of-requires-clause-conforms : goal.made_of-requires-clause-conforms
made_of-requires-clause-conforms c = tree_conforms c.args.eq.now c.args.rule.now c.requires.equation c.requires.rule c.args.row.now c.requires.row c.args.pool.now c.args.trees.now c.requires.listed c.loop-id.id-index _ c.loop-id-test.true (get_or_default c.args.trees.now c.loop-id.id-index _ _ c.loop-id-test.true)

pub made_of-requires-clause-kernel : goal.made_of-requires-clause-kernel
made_of-requires-clause-kernel c = kernel_kind c.args.eq.now c.args.rule.now c.requires.equation c.requires.rule c.args.row.now c.requires.row

pub returns-in_err-made_of-clause-large : goal.returns-in_err-made_of-clause-large
returns-in_err-made_of-clause-large c =
    let more : c.in_err-made_of.field-0.0 ≡ RuleTooLarge → HasMany (IsInNext c.args.eq.now c.args.rule.now c.args.row.now.kernel.0) =
    λ e. many_made c.args.eq.now c.args.rule.now c.requires.equation c.requires.rule c.args.row.now c.requires.row c.args.pool.now c.args.trees.now c.requires.listed c.loop-id.id-index _ c.loop-id-test.true (get_or_default c.args.trees.now c.loop-id.id-index _ _ c.loop-id-test.true) (c.in_err-made_of.ensures.large e) in
    search rules

pub returns-in_err-put_few-2-clause-large : goal.returns-in_err-put_few-2-clause-large
returns-in_err-put_few-2-clause-large c =
    let more : c.in_err-put_few-2.field-0.0 ≡ RuleTooLarge → HasMany (IsInNext c.args.eq.now c.args.rule.now c.args.row.now.kernel.0) =
    λ e. many_put c.args.eq.now c.args.rule.now c.requires.equation c.requires.rule c.args.row.now c.requires.row c.args.pool.now c.args.trees.now c.requires.listed c.loop-id.id-index _ c.loop-id.nodes.keys c.in_ok-made_of.field-0.items c.loop-id-test.true (get_or_default c.args.trees.now c.loop-id.id-index _ _ c.loop-id-test.true) c.loop-id.invariant.set c.in_ok-made_of.ensures.set (c.in_err-put_few-2.ensures.large e) in
    search rules

pub loop-id-preserved : goal.loop-id-preserved
loop-id-preserved c = record {
  set = found_step c.args.eq.now c.args.rule.now c.requires.equation c.requires.rule c.args.row.now c.requires.row c.args.pool.now c.args.trees.now c.requires.listed c.loop-id.id-index _ c.loop-id.nodes.keys c.in_ok-made_of.field-0.items c.put_few-in-loop-id.new.into.keys c.loop-id-test.true (get_or_default c.args.trees.now c.loop-id.id-index _ _ c.loop-id-test.true) c.loop-id.invariant.set c.in_ok-made_of.ensures.set c.in_ok-put_few-2.ensures.new;
  few = c.in_ok-put_few-2.ensures.few;
}

pub returns-clause-set : goal.returns-clause-set
returns-clause-set c =
    let set : IsSetOf (IsInNext c.args.eq.now c.args.rule.now c.args.row.now.kernel.0) c.loop-id.nodes.keys =
    found_last c.args.eq.now c.args.rule.now c.requires.equation c.requires.rule c.args.row.now c.requires.row c.args.pool.now c.args.trees.now c.requires.listed c.loop-id.id-index c.loop-id.nodes.keys c.loop-id-test.false c.loop-id.invariant.set in
    search rules
