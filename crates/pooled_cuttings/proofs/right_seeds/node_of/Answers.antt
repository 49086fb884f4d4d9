use Rattle.pooled_cuttings.proofs.Makings.{pool_after}
use Rattle.pooled_cuttings.proofs.right_seeds.node_of.Goals as goal

pub returns-clause-grown : goal.returns-clause-grown
returns-clause-grown c =
    pool_after c.args.pool.now c.intern_node.new.self c.intern_node.result _ c.intern_node.ensures.grown c.intern_node.ensures.unchanged
