use Rattle.desk_requests.proofs.Stays.{stays, ends, one}
use Rattle.desk_requests.proofs.laws.decided_for_good.Goals as goal

pub returns-clause-stays : goal.returns-clause-stays
returns-clause-stays c = stays

pub returns-clause-ends : goal.returns-clause-ends
returns-clause-ends c = ends

pub returns-clause-one : goal.returns-clause-one
returns-clause-one c = one
