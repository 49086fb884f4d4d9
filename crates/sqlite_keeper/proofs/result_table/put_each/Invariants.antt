use Rattle.std.proofs.Common.{◌≡◌, Ok, IsTrue, map, take}
use Rattle.sqlite.specs.State.{HasCleanDisk}
use Rattle.sqlite.specs.Held.{state}
use Rattle.result_keeper.specs.Entries.{pair_of}
use Rattle.result_keeper.specs.Kept.{with_rows}
use Rattle.sqlite_keeper.specs.Tables.{IsStore}
use Rattle.sqlite_keeper.specs.Told.{kept_in}
use Rattle.sqlite_keeper.specs.Changes.{HasTables, RunsWithin}
use Rattle.sqlite_keeper.proofs.result_table.put_each.Given as goal

-- the transaction is over the same connection and goes on, and the rows so far are put
abbrev pub invariant-loop-row : goal.invariant-loop-row
invariant-loop-row g l =
    (l.tx.conn.ghost_name ≡ l.fn.tx.conn.ghost_name)
    × RunsWithin {X = Unit {0}} (state g.S.Store l.fn.tx.conn.now) (state g.S.Store l.tx.conn.now) (Ok tt)
    × (HasCleanDisk (state g.S.Store l.tx.conn.now) → IsTrue (state g.S.Store l.fn.tx.conn.now).in_transaction → IsStore (state g.S.Store l.fn.tx.conn.now).now
    → HasTables (with_rows l.context (map pair_of (take l.row-index l.rows)) (kept_in (state g.S.Store l.fn.tx.conn.now).now)) (state g.S.Store l.tx.conn.now).now)
