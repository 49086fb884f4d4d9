use Rattle.std.proofs.Common.{◌≡◌, [], drop}
use Rattle.tree_pool.specs.Content.{tree_at, tree_over}
use Rattle.gaussian_pairings.specs.Vanishing.{has_integrated}
use Rattle.gaussian_pairings.proofs.vanishing.+has_integrated.Given as goal

abbrev pub decreases-has_integrated : goal.decreases-has_integrated
decreases-has_integrated l = l.id.0

-- there is such an edge where there is one among those that are left
abbrev pub invariant-loop-e : goal.invariant-loop-e
invariant-loop-e l = has_integrated l.types (tree_over l.pool.trees [] (drop l.e-index l.edges)) ≡ has_integrated l.types (tree_at l.pool l.fn.id.0)
