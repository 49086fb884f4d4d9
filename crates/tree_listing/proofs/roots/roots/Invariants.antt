use Rattle.std.proofs.Common.{◌≡◌}
use Rattle.tree_listing.specs.Roots.{roots_to}
use Rattle.tree_listing.proofs.roots.roots.Given as goal

abbrev pub invariant-loop-direction : goal.invariant-loop-direction
invariant-loop-direction l = l.roots.items ≡ roots_to l.types l.room l.direction
