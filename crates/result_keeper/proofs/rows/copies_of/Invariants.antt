use Rattle.std.proofs.Common.{◌≡◌, take, map}
use Rattle.result_keeper.specs.Entries.{row_entry}
use Rattle.result_keeper.proofs.rows.copies_of.Given as goal

abbrev pub invariant-loop-row : goal.invariant-loop-row
invariant-loop-row l = map row_entry l.copies.items ≡ map row_entry (take l.row-index l.rows)
