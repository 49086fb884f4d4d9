use Rattle.std.proofs.Common.{length}
use Rattle.tree_budgets.proofs.sums.+derivative_sum.Given as goal

abbrev pub decreases-derivative_sum : goal.decreases-derivative_sum
decreases-derivative_sum l = length l.edges.now
