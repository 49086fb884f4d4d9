use Rattle.std.proofs.Common.{◌≡◌, take, flat_map}
use Rattle.tree_listing.specs.Roots.{with_entries}
use Rattle.tree_listing.proofs.roots.next_direction.Given as goal

abbrev pub invariant-loop-n : goal.invariant-loop-n
invariant-loop-n l = l.more.items ≡ flat_map (with_entries l.types l.room l.direction) (take l.n-index l.roots)
