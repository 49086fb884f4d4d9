use Rattle.normal_rule.proofs.Fits.{rule_rows, rule_measured, rule_known}
use Rattle.normal_rule.proofs.OverTypes.{rule_over_types}
use Rattle.normal_rule.proofs.laws.normal_rule_fits.Goals as goal

pub returns-clause-rows : goal.returns-clause-rows
returns-clause-rows c = λ eq rule h r. rule_rows eq rule h r

pub returns-clause-measured : goal.returns-clause-measured
returns-clause-measured c = λ eq rule h r. rule_measured eq rule h r

pub returns-clause-known : goal.returns-clause-known
returns-clause-known c = λ eq rule h r. rule_known eq rule h r

pub returns-clause-over_types : goal.returns-clause-over_types
returns-clause-over_types c = λ eq rule h r. rule_over_types eq rule h r
