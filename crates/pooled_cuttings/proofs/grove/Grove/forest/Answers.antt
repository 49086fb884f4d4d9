use Rattle.pooled_cuttings.proofs.Groves.{forests_after}
use Rattle.pooled_cuttings.proofs.grove.Grove.forest.Goals as goal

pub returns-clause-grown : goal.returns-clause-grown
returns-clause-grown c =
    rw (← c.self.view_is) (forests_after c.self.inside.pool c.self.inside.forests c.intern.new.self c.intern.result c.intern.ensures.grown c.intern.ensures.unchanged)
