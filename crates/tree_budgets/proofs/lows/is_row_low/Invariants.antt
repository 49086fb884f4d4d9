use Rattle.std.proofs.Common.{take}
use Rattle.std.specs.List.{All}
use Rattle.tree_budgets.specs.Bounds.{IsLowAt}
use Rattle.tree_budgets.proofs.lows.is_row_low.Given as goal

abbrev pub invariant-loop-node : goal.invariant-loop-node
invariant-loop-node l = All (IsLowAt l.types l.lows l.row.kernel.0) (take l.node-index l.node-items)
