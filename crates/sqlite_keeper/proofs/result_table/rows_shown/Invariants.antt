use Rattle.std.proofs.Common.{◌≡◌, take, map}
use Rattle.result_keeper.specs.Entries.{pair_of}
use Rattle.sqlite_keeper.specs.Tables.{shown_pair}
use Rattle.sqlite_keeper.proofs.result_table.rows_shown.Given as goal

abbrev pub invariant-loop-row : goal.invariant-loop-row
invariant-loop-row l = map pair_of l.found.items ≡ map shown_pair (take l.row-index l.rows)
