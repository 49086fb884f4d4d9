use Rattle.std.proofs.Common.{◌≡◌, take, map}
use Rattle.result_keeper.specs.Kept.{row_cmp, put_rows}
use Rattle.result_keeper.specs.Entries.{AreApart, pair_of, row_entry, rows_of}
use Rattle.result_keeper.proofs.rows.with_results.Given as goal

abbrev pub invariant-loop-row : goal.invariant-loop-row
invariant-loop-row l =
    (rows_of l.next.items ≡ put_rows l.context (map pair_of (take l.row-index l.given)) (rows_of l.rows)) × AreApart row_cmp (map row_entry l.next.items)
