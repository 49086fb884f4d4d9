use Rattle.std.proofs.Common.{refl}
use Rattle.sqlite.specs.Held.{state}
use Rattle.result_keeper.specs.Kept.{after_put}
use Rattle.sqlite_keeper.proofs.Telling.{told_answer, told_becomes, told_stays, kept_is}
use Rattle.sqlite_keeper.proofs.keeper.SqliteKeeperKeeper.put_project.Goals as goal

pub returns-in-Ok-clause-answer : goal.returns-in-Ok-clause-answer
returns-in-Ok-clause-answer g c =
    told_answer g.S.Steady.is_steady c.args.self.now.is_old (state g.S.Store c.args.self.now.conn).now _ (λ steady is.
    let sure = g.met.S.Steady.stays c.keep_file.new.conn.store steady in
    c.in-Ok.ensures.answer sure.clean is)

pub returns-in-Ok-clause-put : goal.returns-in-Ok-clause-put
returns-in-Ok-clause-put g c =
    told_becomes g.S.Steady.is_steady c.args.self.now.is_old (state g.S.Store c.args.self.now.conn).now (state g.S.Store c.keep_file.new.conn).now (after_put c.in-Ok.put c.args.name.now c.args.file.now) (λ k. refl) (λ steady is.
    let sure = g.met.S.Steady.stays c.keep_file.new.conn.store steady in
    let it = c.in-Ok.ensures.put sure.clean is in
    (it.is, kept_is _ _ it))

pub returns-in-Err-clause-err : goal.returns-in-Err-clause-err
returns-in-Err-clause-err g c =
    told_stays g.S.Steady.is_steady c.args.self.now.is_old (state g.S.Store c.args.self.now.conn).now (state g.S.Store c.keep_file.new.conn).now (λ steady is.
    let sure = g.met.S.Steady.stays c.keep_file.new.conn.store steady in
    c.in-Err.ensures.err sure.clean sure.is_open is)
