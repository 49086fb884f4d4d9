use Rattle.std.proofs.Common.{◌≡◌, map}
use Rattle.std.specs.List.{range_with_len}
use Rattle.tree_budgets.specs.Bounds.{regular_low}
use Rattle.tree_budgets.proofs.bounds.regular_lows.Given as goal

abbrev pub invariant-loop-k : goal.invariant-loop-k
invariant-loop-k l = l.lows ≡ map (regular_low l.eq) (range_with_len 0 l.k)
