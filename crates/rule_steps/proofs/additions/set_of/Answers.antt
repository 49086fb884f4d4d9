use Rattle.std.proofs.Common.{◌≡◌, ◌∙◌, map, rules, arith}
use Rattle.ordered_lists.specs.Members.{IsIn}
use Rattle.normal_rule.specs.declared.rule.RuleRefusal.TheVariants.{RuleTooLarge}
use Rattle.conforming_trees.specs.Conforming.{labels}
use Rattle.rule_steps.specs.Sets.{HasMany}
use Rattle.rule_steps.proofs.BumpedSets.{list_set, list_many}
use Rattle.rule_steps.proofs.NodeSets.{set_short}
use Rattle.rule_steps.proofs.additions.set_of.Goals as goal

pub returns-then-len-lt2-clause-set : goal.returns-then-len-lt2-clause-set
returns-then-len-lt2-clause-set c = set_short c.args.nodes.items (omega (arith, c.if-len-lt2.true, c.len.ensures))

pub returns-in_err-put_few-clause-large : goal.returns-in_err-put_few-clause-large
returns-in_err-put_few-clause-large c =
    let more : c.in_err-put_few.field-0.0 ≡ RuleTooLarge → HasMany (λ es. IsIn es (map labels c.args.nodes.items)) =
    λ e. list_many c.args.nodes.items c.new-found.result.keys c.new-found.ensures.empty (c.in_err-put_few.ensures.large e) in
    search rules

pub returns-clause-set : goal.returns-clause-set
returns-clause-set c =
    let items : c.in_ok-collect.field-0.items ≡ c.put_few.new.into.keys = search rules in
    list_set c.args.nodes.items c.new-found.result.keys c.new-found.ensures.empty c.in_ok-collect.field-0.items (items ∙ c.in_ok-put_few.ensures.new)
