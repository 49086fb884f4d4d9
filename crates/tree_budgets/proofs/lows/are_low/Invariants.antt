use Rattle.std.proofs.Common.{take}
use Rattle.std.specs.List.{All}
use Rattle.tree_budgets.specs.Bounds.{IsLowRow}
use Rattle.tree_budgets.proofs.lows.are_low.Given as goal

abbrev pub invariant-loop-row : goal.invariant-loop-row
invariant-loop-row l = All (IsLowRow l.types l.lows) (take l.row-index l.row-items)
