use Rattle.std.proofs.Common.{◌≡◌, ◌+◌}
use Rattle.tree_pool.specs.Content.{tree_at}
use Rattle.elementary_diff.specs.Differentials.{kernel_edges}
use Rattle.elementary_diff.proofs.KernelCounts.{kernels_left}
use Rattle.elementary_diff.proofs.denominators.+kernel_edges.Given as goal

abbrev pub decreases-kernel_edges : goal.decreases-kernel_edges
decreases-kernel_edges l = l.id.0

abbrev pub invariant-loop-e : goal.invariant-loop-e
invariant-loop-e l = l.count + kernels_left l.types l.pool l.edges l.e-index ≡ kernel_edges l.types (tree_at l.pool l.fn.id.0)
