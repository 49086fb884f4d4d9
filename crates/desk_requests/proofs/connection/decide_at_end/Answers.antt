use Rattle.desk_requests.proofs.Stays.{at_end, at_end_is}
use Rattle.desk_requests.proofs.connection.decide_at_end.Goals as goal

pub returns-in-Open : goal.returns-in-Open
returns-in-Open c = at_end c.args.bytes.now _ (rw c.in-Open.is at c.in_ok-decision.ensures)

pub returns-in_default : goal.returns-in_default
returns-in_default c = at_end_is c.args.bytes.now c.in_ok-decision.decision c.in_ok-decision.ensures c.in_default.not-Open
