use Rattle.std.proofs.Common.{◌≤◌, drop, length}
use Rattle.plain_trees.specs.Plain.{root_of}
use Rattle.tree_pool.specs.Content.{tree_at, tree_over}
use Rattle.coefficient_bounds.specs.PoolSums.{AreTreeSums, AreModest}
use Rattle.coefficient_bounds.proofs.small.+sums_of.Given as goal

abbrev pub decreases-sums_of : goal.decreases-sums_of
decreases-sums_of l = l.id.0

abbrev pub invariant-loop-i : goal.invariant-loop-i
invariant-loop-i l = record {
  most : l.i ≤ length l.edges;
  sums : AreTreeSums l.pool.types l.most
      (tree_over l.pool.trees (root_of (tree_at l.pool l.fn.id.0)) (drop l.i l.edges)) l.sums;
  modest : AreModest l.sums;
}

abbrev pub decreases-loop-i : goal.decreases-loop-i
decreases-loop-i l = l.i
