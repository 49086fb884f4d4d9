use Rattle.std.proofs.Common.{length}
use Rattle.large_trees.proofs.charges.+charged_sum.Given as goal

abbrev pub decreases-charged_sum : goal.decreases-charged_sum
decreases-charged_sum l = length l.edges.now
