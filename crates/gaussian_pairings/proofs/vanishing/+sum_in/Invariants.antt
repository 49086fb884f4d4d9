use Rattle.std.proofs.Common.{◌≡◌, ◌+◌, drop}
use Rattle.tree_pool.specs.Content.{tree_at, tree_over}
use Rattle.gaussian_pairings.specs.Vanishing.{sum_in}
use Rattle.gaussian_pairings.proofs.vanishing.+sum_in.Given as goal

abbrev pub decreases-sum_in : goal.decreases-sum_in
decreases-sum_in l = l.id.0

abbrev pub invariant-loop-e : goal.invariant-loop-e
invariant-loop-e l = l.sum + sum_in l.direction (tree_over l.pool.trees l.n.entries (drop l.e-index l.edges)) ≡ sum_in l.direction (tree_at l.pool l.fn.id.0)
