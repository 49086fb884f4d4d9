use Rattle.std.proofs.Common.{◌≤◌, ◌-◌, length}
use Rattle.tree_pool.specs.Content.{tree_at}
use Rattle.tree_listing.specs.Levels.{trees}
use Rattle.tree_listing.proofs.Places.{AreAfter, AreBefore}
use Rattle.tree_listing.proofs.found.place.Given as goal

abbrev pub decreases-loop-low : goal.decreases-loop-low
decreases-loop-low l = l.high - l.low

abbrev pub invariant-loop-low : goal.invariant-loop-low
invariant-loop-low l = record {
  low : l.low ≤ l.high;
  high : l.high ≤ length l.listed;
  before : AreBefore l.pool.types (trees l.pool l.listed) (tree_at l.pool l.id.0) l.low;
  after : AreAfter l.pool.types (trees l.pool l.listed) (tree_at l.pool l.id.0) l.high;
}
