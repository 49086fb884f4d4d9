use Rattle.tree_pool.proofs.Ids.{fits_grown}
use Rattle.pooled_cuttings.proofs.Makings.{pool_after}
use Rattle.pooled_cuttings.proofs.grove.Grove.node.Goals as goal

pub invariant_of-self : goal.invariant_of-self
invariant_of-self c =
    fits_grown c.self.inside.forests c.self.inside.pool c.intern_node.new.self
    (pool_after c.self.inside.pool c.intern_node.new.self c.intern_node.result _ c.intern_node.ensures.grown c.intern_node.ensures.unchanged) c.self.invariant
