use Rattle.std.proofs.Common.{take}
use Rattle.std.specs.List.{All}
use Rattle.tree_budgets.specs.Bounds.{IsEnoughRow}
use Rattle.tree_budgets.proofs.mosts.are_enough.Given as goal

abbrev pub invariant-loop-row : goal.invariant-loop-row
invariant-loop-row l = All (IsEnoughRow l.types l.lows l.mosts) (take l.row-index l.row-items)
