use Rattle.tree_pool.proofs.Ids.{fits_grown}
use Rattle.pooled_cuttings.proofs.grove.Grove.raised.Goals as goal

pub invariant_of-self : goal.invariant_of-self
invariant_of-self c = fits_grown c.self.inside.forests c.self.inside.pool c.raised.new.pool c.raised.ensures.grown c.self.invariant
