use Rattle.multiplicities.proofs.Grouping.{total_multiplicities}
use Rattle.multiplicities.proofs.laws.grouping_laws.Goals as goal

pub returns : goal.returns
returns g c = λ R xs o exact. total_multiplicities R o exact xs
