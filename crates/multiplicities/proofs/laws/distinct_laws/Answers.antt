use Rattle.multiplicities.proofs.DistinctLists.{in_distinct, from_distinct, distinct_distinct, distinct_length}
use Rattle.multiplicities.proofs.laws.distinct_laws.Goals as goal

pub returns-clause-members : goal.returns-clause-members
returns-clause-members g c = λ R xs x o exact. (in_distinct R o exact x xs, from_distinct R o exact x xs)

pub returns-clause-distinct : goal.returns-clause-distinct
returns-clause-distinct g c = λ R xs o exact. distinct_distinct R o exact xs

pub returns-clause-fewer : goal.returns-clause-fewer
returns-clause-fewer g c = distinct_length
