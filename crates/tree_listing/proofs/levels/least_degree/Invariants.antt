use Rattle.std.proofs.Common.{take}
use Rattle.tree_listing.specs.Made.{IsLeast}
use Rattle.tree_listing.proofs.levels.least_degree.Given as goal

abbrev pub invariant-loop-id : goal.invariant-loop-id
invariant-loop-id l = IsLeast l.pool (take l.id-index l.wholes) l.least
