use Rattle.std.proofs.Common.{arith}
use Rattle.tree_pool.specs.Content.{tree_over}
use Rattle.tree_pool.proofs.Walks.{no_edge, below_at}
use Rattle.elementary_diff.proofs.KernelCounts.{kernels-whole, kernels-fit}
use Rattle.elementary_diff.proofs.denominators.+kernel_edges.Goals as goal
use Rattle.elementary_diff.proofs.denominators.+kernel_edges.Goals.{then-is_kernel, else-is_kernel}

pub loop-e-init : goal.loop-e-init
loop-e-init t c = omega (arith, kernels-whole c.args.types.now c.args.pool.now c.args.id.0 c.node.result.0.entries c.node.result.1.now c.node.ensures.tree)

pub overflow_add-count : goal.overflow_add-count
overflow_add-count t c =
    let fit = kernels-fit c.args.types.now c.args.pool.now c.args.id.0 (tree_over c.args.pool.now.trees c.node.result.0.entries c.node.result.1.now) c.node.ensures.tree c.node.ensures.kept.small.edges in
    omega (arith, fit, c.loop-e.invariant)

pub kernel_edges-count-requires : goal.kernel_edges-count-requires
kernel_edges-count-requires t c =
    let below = below_at c.args.id.0 c.node.result.1.now c.loop-e.e-index no_edge c.node.ensures.below c.loop-e-test.true in
    (omega (arith, below), omega (arith, below, c.requires))

pub overflow_add-count-in-loop-e : goal.overflow_add-count-in-loop-e
overflow_add-count-in-loop-e t c =
    let fit = kernels-fit c.args.types.now c.args.pool.now c.args.id.0 (tree_over c.args.pool.now.trees c.node.result.0.entries c.node.result.1.now) c.node.ensures.tree c.node.ensures.kept.small.edges in
    elim c.if-is_kernel.branch [
      | then-is_kernel w ↦ omega (arith, fit, c.loop-e.invariant, w.count-is, c.kernel_edges-count.ensures.most)
      | else-is_kernel w ↦ omega (arith, fit, c.loop-e.invariant, w.count-is, c.kernel_edges-count.ensures.most)
    ]

pub returns-clause-most : goal.returns-clause-most
returns-clause-most t c =
    let fit = kernels-fit c.args.types.now c.args.pool.now c.args.id.0 (tree_over c.args.pool.now.trees c.node.result.0.entries c.node.result.1.now) c.node.ensures.tree c.node.ensures.kept.small.edges in
    omega (arith, fit, c.loop-e.invariant)
