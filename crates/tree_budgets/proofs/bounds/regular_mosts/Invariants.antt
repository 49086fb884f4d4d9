use Rattle.std.proofs.Common.{◌≡◌, map}
use Rattle.std.specs.List.{range_with_len}
use Rattle.tree_budgets.specs.Bounds.{regular_most}
use Rattle.tree_budgets.proofs.bounds.regular_mosts.Given as goal

abbrev pub invariant-loop-k : goal.invariant-loop-k
invariant-loop-k l = l.mosts ≡ map (regular_most l.eq l.greatest) (range_with_len 0 l.k)
