use Rattle.std.proofs.Common.{◌≡◌, ◌++◌, take, flat_map}
use Rattle.tree_listing.specs.Made.{by_extension, node_at}
use Rattle.tree_listing.proofs.growth.put_stem.Given as goal

abbrev pub invariant-loop-extension : goal.invariant-loop-extension
invariant-loop-extension l = l.made.items ≡ l.fn.made.items ++ flat_map (by_extension l.pool l.ground.empty l.ground.above l.ground.rows.now l.ground.plan.now l.stem) (take l.extension-index (node_at l.ground.plan.now l.stem.node).extensions)
