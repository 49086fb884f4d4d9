-- The normal rule of an equation is a rule over its types.
use Rattle.equations.specs.declared.equation.Equation.{Equation}
use Rattle.equations.specs.Accepted.{IsEquation}
use Rattle.normal_rule.specs.declared.rule.Rule.{Rule}
use Rattle.normal_rule.specs.OverTypes.{IsRule}
use Rattle.normal_rule.specs.Rule.{IsNormalRule}
use Rattle.normal_rule.proofs.Fits.{rule_rows, rule_known, rule_directions}
use Rattle.normal_rule.proofs.RuleLaws.{rule_normal}

pub rule_over_types : (eq : Equation) (rule : Rule) → IsEquation eq → IsNormalRule eq rule → IsRule eq rule
rule_over_types eq rule h r = record {
  normal = rule_normal eq rule h r;
  rows = rule_rows eq rule h r;
  known = rule_known eq rule h r;
  directions = rule_directions eq rule h r;
}
