use Rattle.std.proofs.Common.{◌≡◌, false, ◌==◌, ◌%◌}
use Rattle.tree_pool.specs.Content.{tree_at}
use Rattle.gaussian_pairings.specs.Vanishing.{noises_in, some_below}
use Rattle.gaussian_pairings.proofs.vanishing.has_odd_group.Given as goal

abbrev pub invariant-loop-group : goal.invariant-loop-group
invariant-loop-group l = some_below l.group (λ g. noises_in l.types (tree_at l.pool l.id.0) g % 2 == 1) ≡ false
