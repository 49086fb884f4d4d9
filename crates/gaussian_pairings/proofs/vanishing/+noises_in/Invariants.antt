use Rattle.std.proofs.Common.{◌≡◌, ◌+◌, [], drop}
use Rattle.tree_pool.specs.Content.{tree_at, tree_over}
use Rattle.gaussian_pairings.specs.Vanishing.{noises_in}
use Rattle.gaussian_pairings.proofs.vanishing.+noises_in.Given as goal

abbrev pub decreases-noises_in : goal.decreases-noises_in
decreases-noises_in l = l.id.0

abbrev pub invariant-loop-e : goal.invariant-loop-e
invariant-loop-e l = l.count + noises_in l.types (tree_over l.pool.trees [] (drop l.e-index l.edges)) l.group ≡ noises_in l.types (tree_at l.pool l.fn.id.0) l.group
