use Rattle.std.proofs.Common.{◌≡◌, ◌++◌, take}
use Rattle.tree_listing.specs.Made.{by_children}
use Rattle.tree_listing.proofs.growth.put_children.Given as goal

abbrev pub invariant-loop-child : goal.invariant-loop-child
invariant-loop-child l = l.made.items ≡ l.fn.made.items ++ by_children l.pool l.site (take l.child-index l.children)
