use Rattle.std.proofs.Common.{◌≡◌, take, map}
use Rattle.sqlite_keeper.specs.Tables.{shown_text}
use Rattle.sqlite_keeper.proofs.result_table.blobs_shown.Given as goal

abbrev pub invariant-loop-row : goal.invariant-loop-row
invariant-loop-row l = map (λ b. b.items) l.blobs.items ≡ map shown_text (take l.row-index l.rows)
