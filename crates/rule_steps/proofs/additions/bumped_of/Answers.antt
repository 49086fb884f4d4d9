use Rattle.std.proofs.Common.{◌≡◌, rules}
use Rattle.ordered_lists.proofs.Members.{member_at}
use Rattle.normal_rule.specs.declared.rule.RuleRefusal.TheVariants.{RuleTooLarge}
use Rattle.conforming_trees.specs.Conforming.{labels}
use Rattle.rule_steps.specs.Choices.{IsBumpedOf}
use Rattle.rule_steps.specs.Sets.{HasMany}
use Rattle.rule_steps.specs.Units.{all_bumped}
use Rattle.rule_steps.proofs.BumpedSets.{fresh, bumped_more, bumped_many}
use Rattle.rule_steps.proofs.additions.bumped_of.Goals as goal

pub put_bumped-requires-clause-small : goal.put_bumped-requires-clause-small
put_bumped-requires-clause-small c = c.requires.small c.node-item.result (member_at c.args.nodes.now c.loop-node.node-index c.node-item.result c.loop-node-test.true c.node-item.is)

pub returns-in_err-put_few-clause-large : goal.returns-in_err-put_few-clause-large
returns-in_err-put_few-clause-large c =
    let d = c.args.direction in
    let n = c.node-item.result in
    let bumped = c.put_bumped.new.into.items in
    let new = fresh c.new-bumped.result.items bumped (all_bumped d (labels n)) c.new-bumped.ensures.items c.in_ok-put_bumped.ensures in
    let more : c.in_err-put_few.field-0.0 ≡ RuleTooLarge → HasMany (IsBumpedOf c.args.direction c.args.nodes.now) =
    λ e. bumped_many d c.loop-node.node-index c.args.nodes.now n c.loop-node.found.keys bumped c.loop-node-test.true c.node-item.is c.loop-node.invariant new (c.in_err-put_few.ensures.large e) in
    search rules

pub loop-node-preserved : goal.loop-node-preserved
loop-node-preserved c =
    let d = c.args.direction in
    let n = c.node-item.result in
    let bumped = c.put_bumped.new.into.items in
    let new = fresh c.new-bumped.result.items bumped (all_bumped d (labels n)) c.new-bumped.ensures.items c.in_ok-put_bumped.ensures in
    bumped_more d c.loop-node.node-index c.args.nodes.now n c.loop-node.found.keys bumped c.loop-node-test.true c.node-item.is c.loop-node.invariant new c.put_few.new.into.keys c.in_ok-put_few.ensures.new
