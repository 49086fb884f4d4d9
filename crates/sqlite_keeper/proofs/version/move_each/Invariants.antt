use Rattle.std.proofs.Common.{◌≡◌, Ok, IsTrue, map, take}
use Rattle.sqlite.specs.State.{HasCleanDisk}
use Rattle.sqlite.specs.Held.{state}
use Rattle.result_keeper.specs.Entries.{context_pair}
use Rattle.result_keeper.specs.Kept.{CanMigrate}
use Rattle.sqlite_keeper.specs.Tables.{IsStore}
use Rattle.sqlite_keeper.specs.Told.{kept_in}
use Rattle.sqlite_keeper.specs.Changes.{HasMoved, RunsWithin}
use Rattle.sqlite_keeper.proofs.version.move_each.Given as goal

-- the transaction is over the same connection and goes on, and the contexts so far are moved
abbrev pub invariant-loop-pair : goal.invariant-loop-pair
invariant-loop-pair g l =
    (l.tx.conn.ghost_name ≡ l.fn.tx.conn.ghost_name)
    × RunsWithin {X = Unit {0}} (state g.S.Store l.fn.tx.conn.now) (state g.S.Store l.tx.conn.now) (Ok tt)
    × (HasCleanDisk (state g.S.Store l.tx.conn.now) → IsTrue (state g.S.Store l.fn.tx.conn.now).in_transaction → IsStore (state g.S.Store l.fn.tx.conn.now).now
    → CanMigrate (map context_pair l.pairs) (kept_in (state g.S.Store l.fn.tx.conn.now).now)
    → HasMoved (take l.pair-index (map context_pair l.pairs)) (state g.S.Store l.fn.tx.conn.now).now (state g.S.Store l.tx.conn.now).now)
