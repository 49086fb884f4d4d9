use Rattle.std.proofs.Common.{◌≡◌, ◌++◌}
use Rattle.tree_listing.specs.Roots.{entries_below}
use Rattle.tree_listing.proofs.roots.put_entries.Given as goal

abbrev pub invariant-loop-entry : goal.invariant-loop-entry
invariant-loop-entry l = l.more.items ≡ l.fn.more.items ++ entries_below l.types l.room l.direction l.n l.entry
