use Rattle.pooled_cuttings.proofs.Groves.{union_after}
use Rattle.pooled_cuttings.proofs.grove.Grove.united.Goals as goal

pub returns-clause-forest : goal.returns-clause-forest
returns-clause-forest c =
    rw (← c.self.view_is)
    (union_after c.self.inside.pool c.self.inside.forests c.join.new.self c.join.result c.args.f.0 c.args.g.0 (rw (← c.self.view_is) at c.laws.ensures.pooled) c.self.invariant
    (rw (← c.self.view_is) at c.requires.known_f) (rw (← c.self.view_is) at c.requires.known_g) c.join.ensures.known c.join.ensures.forest)
