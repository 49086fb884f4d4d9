use Rattle.std.proofs.Common.{◌≡◌, ◌==◌, ◌%◌, drop}
use Rattle.std.specs.List.{list_any}
use Rattle.tree_pool.specs.Content.{tree_at}
use Rattle.gaussian_pairings.specs.Vanishing.{sum_in, has_odd_direction}
use Rattle.gaussian_pairings.proofs.vanishing.has_odd_direction.Given as goal

-- there is an odd direction where there is one among those that are left
abbrev pub invariant-loop-direction : goal.invariant-loop-direction
invariant-loop-direction l = list_any (λ i. sum_in i (tree_at l.pool l.id.0) % 2 == 1) (drop l.direction-index l.direction-items) ≡ has_odd_direction l.types (tree_at l.pool l.id.0)
