use Rattle.exact_sums.proofs.KeyedLaws.{collected_unique}
use Rattle.exact_sums.proofs.laws.collected_law.Goals as goal

pub returns : goal.returns
returns g c = λ xs ys p q h.
    collected_unique g.K.Ord.cmp g.met.K.Ord.total g.K.PartialEq.eq c.requires.exact g.met.K.Ord.matches_eq xs ys p.ascending q.ascending p.above q.above h
