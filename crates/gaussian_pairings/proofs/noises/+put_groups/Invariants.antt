use Rattle.std.proofs.Common.{◌≡◌, ◌++◌, [], drop}
use Rattle.tree_pool.specs.Content.{tree_at, tree_over}
use Rattle.gaussian_pairings.specs.Vanishing.{noise_groups}
use Rattle.gaussian_pairings.proofs.noises.+put_groups.Given as goal

abbrev pub decreases-put_groups : goal.decreases-put_groups
decreases-put_groups l = l.id.0

abbrev pub invariant-loop-e : goal.invariant-loop-e
invariant-loop-e l = l.groups.items ++ noise_groups l.types (tree_over l.pool.trees [] (drop l.e-index l.edges)) ≡ l.fn.groups.items ++ noise_groups l.types (tree_at l.pool l.fn.id.0)
