use Rattle.rule_stages.proofs.ClosedCuttings.{closed_under_cutting}
use Rattle.rule_stages.proofs.laws.completion_is_closed.Goals as goal

pub returns : goal.returns
returns c = closed_under_cutting
