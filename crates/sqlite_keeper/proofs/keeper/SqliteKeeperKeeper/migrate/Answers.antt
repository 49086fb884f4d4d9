use Rattle.std.proofs.Common.{map, false}
use Rattle.sqlite.specs.Held.{state}
use Rattle.result_keeper.specs.Kept.{migrated, CanMigrate}
use Rattle.result_keeper.specs.Entries.{context_pair}
use Rattle.sqlite_keeper.proofs.Telling.{told_turns, told_holds, told_stays, kept_is}
use Rattle.sqlite_keeper.proofs.keeper.SqliteKeeperKeeper.migrate.Goals as goal

pub returns-in-Ok-clause-migrated : goal.returns-in-Ok-clause-migrated
returns-in-Ok-clause-migrated g c =
    let old = (state g.S.Store c.args.self.now.conn).now in
    let new = (state g.S.Store c.migrate.new.conn).now in
    let pairs = map context_pair c.args.pairs.now in
    told_turns g.S.Steady.is_steady c.args.self.now.is_old false old new (migrated pairs) (λ steady version is.
    let sure = g.met.S.Steady.stays c.migrate.new.conn.store steady in
    let can = told_holds g.S.Steady.is_steady c.args.self.now.is_old old (CanMigrate pairs) c.requires.pairs steady version is in
    let it = c.in-Ok.ensures.migrated can sure.clean is in
    (it.is, kept_is _ _ it, it.version))

pub returns-in-Err-clause-err : goal.returns-in-Err-clause-err
returns-in-Err-clause-err g c =
    told_stays g.S.Steady.is_steady c.args.self.now.is_old (state g.S.Store c.args.self.now.conn).now (state g.S.Store c.migrate.new.conn).now (λ steady is.
    let sure = g.met.S.Steady.stays c.migrate.new.conn.store steady in
    c.in-Err.ensures.err sure.clean sure.is_open)
