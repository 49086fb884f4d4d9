use Rattle.std.proofs.Common.{◌≡◌, ◌≤◌, ℕ, List, drop, length}
use Rattle.plain_trees.specs.Canon.{canon}
use Rattle.tree_pool.specs.Content.{tree_over, AreBelow}
use Rattle.tree_pool.proofs.sort.sorted_edges.Given as goal

abbrev pub invariant-loop-i : goal.invariant-loop-i
invariant-loop-i l = record {
  within : l.i ≤ length l.edges;
  known : AreBelow (length l.pool.trees) l.sorted.items;
  tree : (n : List ℕ) → tree_over l.pool.trees n l.sorted.items ≡ canon (tree_over l.pool.trees n (drop l.i l.edges));
}

abbrev pub decreases-loop-i : goal.decreases-loop-i
decreases-loop-i l = l.i
