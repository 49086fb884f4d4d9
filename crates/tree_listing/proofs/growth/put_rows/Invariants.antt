use Rattle.std.proofs.Common.{◌≡◌, ◌++◌, take}
use Rattle.tree_listing.specs.Made.{by_rows}
use Rattle.tree_listing.proofs.growth.put_rows.Given as goal

abbrev pub invariant-loop-row : goal.invariant-loop-row
invariant-loop-row l = l.made.items ≡ l.fn.made.items ++ by_rows l.pool l.site (take l.row-index l.rows)
