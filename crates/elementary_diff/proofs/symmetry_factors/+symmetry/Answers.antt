use Rattle.std.proofs.Common.{arith}
use Rattle.tree_pool.proofs.Equal.{EdgeTo-Decides}
use Rattle.tree_pool.proofs.Walks.{no_edge, below_at}
use Rattle.elementary_diff.proofs.Repeats.{symmetry_whole, edge_step, edges_done, factorial_24}
use Rattle.elementary_diff.proofs.symmetry_factors.+symmetry.Goals as goal

pub loop-i-init : goal.loop-i-init
loop-i-init t c = omega (arith, symmetry_whole c.args.pool.now c.args.id.0 c.node.result.0.entries c.node.result.1.now c.node.ensures.tree)

pub symmetry-requires : goal.symmetry-requires
symmetry-requires t c =
    let below = below_at c.args.id.0 c.node.result.1.now c.loop-i.i no_edge c.node.ensures.below c.loop-i-test.true in
    (omega (arith, below), omega (arith, below, c.requires))

pub overflow_mul-factor : goal.overflow_mul-factor
overflow_mul-factor t c =
    let step = edge_step c.args.pool.now _ c.args.id.0 c.node.result.0.entries c.node.result.1.now c.loop-i.i c.loop-i.factor c.multiplicity.result c.symmetry.result EdgeTo-Decides c.laws.ensures.distinct c.requires c.node.ensures.tree c.node.ensures.below c.node.ensures.kept.small.edges c.loop-i-test.true c.multiplicity.ensures c.symmetry.ensures.value c.loop-i.invariant in
    omega (arith, step.0, factorial_24)

pub overflow_mul-factor-in-loop-i : goal.overflow_mul-factor-in-loop-i
overflow_mul-factor-in-loop-i t c =
    let step = edge_step c.args.pool.now _ c.args.id.0 c.node.result.0.entries c.node.result.1.now c.loop-i.i c.loop-i.factor c.multiplicity.result c.symmetry.result EdgeTo-Decides c.laws.ensures.distinct c.requires c.node.ensures.tree c.node.ensures.below c.node.ensures.kept.small.edges c.loop-i-test.true c.multiplicity.ensures c.symmetry.ensures.value c.loop-i.invariant in
    omega (arith, step.1, factorial_24)

pub loop-i-preserved : goal.loop-i-preserved
loop-i-preserved t c =
    (edge_step c.args.pool.now _ c.args.id.0 c.node.result.0.entries c.node.result.1.now c.loop-i.i c.loop-i.factor c.multiplicity.result c.symmetry.result EdgeTo-Decides c.laws.ensures.distinct c.requires c.node.ensures.tree c.node.ensures.below c.node.ensures.kept.small.edges c.loop-i-test.true c.multiplicity.ensures c.symmetry.ensures.value c.loop-i.invariant).2

pub returns-clause-value : goal.returns-clause-value
returns-clause-value t c = (edges_done c.args.pool.now c.args.id.0 c.node.result.0.entries c.node.result.1.now c.loop-i.i c.loop-i.factor c.node.ensures.tree c.node.ensures.kept.small.edges c.loop-i-test.false c.loop-i.invariant).0

pub returns-clause-most : goal.returns-clause-most
returns-clause-most t c = (edges_done c.args.pool.now c.args.id.0 c.node.result.0.entries c.node.result.1.now c.loop-i.i c.loop-i.factor c.node.ensures.tree c.node.ensures.kept.small.edges c.loop-i-test.false c.loop-i.invariant).1
