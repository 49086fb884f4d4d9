use Rattle.normal_rule.specs.Made.{rule_of}
use Rattle.normal_rule.proofs.RuleLaws.{rule_is, rule_unique, rule_normal}
use Rattle.normal_rule.proofs.laws.normal_rule_laws.Goals as goal

pub returns-clause-exists : goal.returns-clause-exists
returns-clause-exists c = λ eq h. (rule_of eq, rule_is eq h)

pub returns-clause-unique : goal.returns-clause-unique
returns-clause-unique c = λ eq rule other h k. rule_unique eq rule other h k

pub returns-clause-normal : goal.returns-clause-normal
returns-clause-normal c = λ eq rule h k. rule_normal eq rule h k
