use Rattle.sqlite.specs.Held.{state}
use Rattle.result_keeper.specs.Kept.{nothing_kept}
use Rattle.sqlite_keeper.specs.Told.{opened, opened_first}
use Rattle.sqlite_keeper.proofs.Telling.{told_is}
use Rattle.sqlite_keeper.proofs.keeper.SqliteKeeper.new.Goals as goal
use Rattle.std.proofs.Common.{sym}

pub returns-in-Ok-clause-empty : goal.returns-in-Ok-clause-empty
returns-in-Ok-clause-empty g c = λ steady has.
    let it = c.in-Ok.ensures.made steady has in
    told_is g.S.Steady.is_steady c.in-Ok.is_old nothing_kept (state g.S.Store c.prepare.new.conn).now steady (sym it.0) it.1

pub returns-in-Ok-clause-kept : goal.returns-in-Ok-clause-kept
returns-in-Ok-clause-kept g c = λ steady is.
    let it = c.in-Ok.ensures.there steady is in
    told_is g.S.Steady.is_steady c.in-Ok.is_old (opened (state g.S.Store c.args.connection).now) (state g.S.Store c.prepare.new.conn).now steady it.version it.tables

pub returns-in-Ok-clause-first : goal.returns-in-Ok-clause-first
returns-in-Ok-clause-first g c = λ steady is.
    let it = c.in-Ok.ensures.grown steady is in
    told_is g.S.Steady.is_steady c.in-Ok.is_old (opened_first (state g.S.Store c.args.connection).now) (state g.S.Store c.prepare.new.conn).now steady it.1 it.0
