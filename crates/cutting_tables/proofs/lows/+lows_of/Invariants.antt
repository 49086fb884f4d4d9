use Rattle.std.proofs.Common.{◌≤◌, [], drop, length}
use Rattle.tree_pool.specs.Content.{tree_over}
use Rattle.cutting_tables.specs.PoolLows.{AreLows, AreWithin}
use Rattle.cutting_tables.proofs.lows.+lows_of.Given as goal

abbrev pub decreases-lows_of : goal.decreases-lows_of
decreases-lows_of l = l.id.0

abbrev pub invariant-loop-i : goal.invariant-loop-i
invariant-loop-i l = record {
  most : l.i ≤ length l.edges;
  lows : AreLows l.pool.types (tree_over l.pool.trees [] (drop l.i l.edges)) l.lows;
  within : AreWithin l.lows;
}

abbrev pub decreases-loop-i : goal.decreases-loop-i
decreases-loop-i l = l.i
