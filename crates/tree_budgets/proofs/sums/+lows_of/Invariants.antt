use Rattle.std.proofs.Common.{length}
use Rattle.tree_budgets.proofs.sums.+lows_of.Given as goal

abbrev pub decreases-lows_of : goal.decreases-lows_of
decreases-lows_of l = length l.edges.now
