use Rattle.exact_sums.proofs.KeyedLaws.{expanded_same_saturated}
use Rattle.exact_sums.proofs.laws.expansion_law.Goals as goal

pub returns : goal.returns
returns g c = λ step xs ys h. expanded_same_saturated g.K.PartialEq.eq c.requires.exact g.J.PartialEq.eq step xs ys h
