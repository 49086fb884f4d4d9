use Rattle.std.proofs.Common.{◌≤◌, length, map, drop}
use Rattle.conforming_trees.specs.Conforming.{label}
use Rattle.large_trees.specs.Lines.{IsLeast}
use Rattle.large_trees.specs.Sums.{IsPartial}
use Rattle.large_trees.proofs.nodes.node_line.Given as goal

abbrev pub invariant-loop-left : goal.invariant-loop-left
invariant-loop-left l = record {
  within : l.left ≤ length l.edges;
  least : IsLeast (IsPartial l.count l.cells (map label (drop l.left l.edges))) l.line.cells;
}

abbrev pub decreases-loop-left : goal.decreases-loop-left
decreases-loop-left l = l.left
