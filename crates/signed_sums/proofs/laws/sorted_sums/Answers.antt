use Rattle.signed_sums.proofs.Joins.{joined_is_sum}
use Rattle.signed_sums.proofs.laws.sorted_sums.Goals as goal

pub returns : goal.returns
returns g c = joined_is_sum g.K.Ord.cmp g.met.K.Ord.total c.requires
