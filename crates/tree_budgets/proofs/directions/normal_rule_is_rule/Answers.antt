use Rattle.normal_rule.proofs.OverTypes.{rule_over_types}
use Rattle.tree_budgets.proofs.directions.normal_rule_is_rule.Goals as goal

pub returns : goal.returns
returns c = rule_over_types c.args.eq.now c.args.rule.now c.requires.equation c.requires.rule
