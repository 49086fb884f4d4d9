use Rattle.tree_pool.proofs.Ids.{fits_grown}
use Rattle.pooled_cuttings.proofs.Makings.{pool_after}
use Rattle.pooled_cuttings.proofs.grove.Grove.joined.Goals as goal

pub invariant_of-self : goal.invariant_of-self
invariant_of-self c =
    fits_grown c.self.inside.forests c.self.inside.pool c.product.new.self
    (pool_after c.self.inside.pool c.product.new.self c.product.result _ c.product.ensures.grown c.product.ensures.unchanged) c.self.invariant
