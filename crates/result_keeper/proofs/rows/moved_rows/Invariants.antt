use Rattle.std.proofs.Common.{◌≡◌, take, map}
use Rattle.result_keeper.specs.Kept.{moved}
use Rattle.result_keeper.specs.Entries.{context_pair, row_entry}
use Rattle.result_keeper.proofs.rows.moved_rows.Given as goal

abbrev pub invariant-loop-row : goal.invariant-loop-row
invariant-loop-row l = map row_entry l.next.items ≡ map (moved (map context_pair l.pairs)) (map row_entry (take l.row-index l.rows))
