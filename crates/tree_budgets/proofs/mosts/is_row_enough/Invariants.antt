use Rattle.std.proofs.Common.{take}
use Rattle.std.specs.List.{All}
use Rattle.tree_budgets.specs.Bounds.{AreEnough}
use Rattle.tree_budgets.proofs.mosts.is_row_enough.Given as goal

abbrev pub invariant-loop-node : goal.invariant-loop-node
invariant-loop-node l = All (AreEnough l.types l.lows l.mosts l.row.kernel.0) (take l.node-index l.node-items)
