use Rattle.std.proofs.Common.{take}
use Rattle.std.specs.List.{All}
use Rattle.large_trees.specs.Charges.{IsNodeBound}
use Rattle.large_trees.proofs.bounded.is_row_bound.Given as goal

abbrev pub invariant-loop-node : goal.invariant-loop-node
invariant-loop-node l = All (IsNodeBound l.types l.charge l.bounds l.row.kernel.0) (take l.node-index l.row.nodes)
