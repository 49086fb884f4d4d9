use Rattle.std.proofs.Common.{◌≤◌, drop, length}
use Rattle.tree_pool.specs.Content.{tree_over, IsGrown}
use Rattle.pooled_cuttings.specs.NodeTables.{IsRightTable}
use Rattle.recentring_coproduct.proofs.table.+table_over.Given as goal

abbrev pub decreases-table_over : goal.decreases-table_over
decreases-table_over l = l.id.0

abbrev pub invariant-loop-i : goal.invariant-loop-i
invariant-loop-i l = record {
  most : l.i ≤ length l.edges;
  grown : IsGrown l.fn.pool l.pool;
  table : IsRightTable l.pool (tree_over l.fn.pool.trees l.n.entries (drop l.i l.edges)) l.table.items;
}

abbrev pub decreases-loop-i : goal.decreases-loop-i
decreases-loop-i l = l.i
