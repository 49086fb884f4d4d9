use Rattle.counterterm_report.proofs.StoredValues.{value_over, value_exact}
use Rattle.counterterm_report.proofs.stored.value_laws.Goals as goal

pub returns-clause-printed : goal.returns-clause-printed
returns-clause-printed c = value_over

pub returns-clause-exact : goal.returns-clause-exact
returns-clause-exact c = value_exact
