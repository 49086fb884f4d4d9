use Rattle.std.proofs.Common.{◌≡◌, length}
use Rattle.tree_listing.specs.Made.{growths_below}
use Rattle.tree_listing.proofs.growth.growths.Given as goal

abbrev pub invariant-loop-e : goal.invariant-loop-e
invariant-loop-e l = l.made.items ≡ growths_below l.pool l.empty l.plan l.levels (length l.levels) l.row l.e
