use Rattle.std.proofs.Common.{◌≡◌, ◌++◌, take}
use Rattle.tree_listing.specs.Made.{by_stems}
use Rattle.tree_listing.proofs.growth.put_stems.Given as goal

abbrev pub invariant-loop-stem : goal.invariant-loop-stem
invariant-loop-stem l = l.made.items ≡ l.fn.made.items ++ by_stems l.pool l.ground.empty l.ground.above l.ground.rows.now l.ground.plan.now (take l.stem-index l.stems)
