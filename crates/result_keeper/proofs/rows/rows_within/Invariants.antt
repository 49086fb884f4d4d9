use Rattle.std.proofs.Common.{◌≡◌, take, map}
use Rattle.result_keeper.specs.Kept.{within}
use Rattle.result_keeper.specs.Entries.{pair_of, row_entry}
use Rattle.result_keeper.proofs.rows.rows_within.Given as goal

abbrev pub invariant-loop-row : goal.invariant-loop-row
invariant-loop-row l = map pair_of l.found.items ≡ within l.context (map row_entry (take l.row-index l.rows))
