use Rattle.std.proofs.Common.{refl}
use Rattle.sqlite.specs.Held.{state}
use Rattle.result_keeper.specs.Kept.{without_project}
use Rattle.sqlite_keeper.proofs.Telling.{told_answer, told_becomes, kept_is}
use Rattle.sqlite_keeper.proofs.keeper.SqliteKeeperKeeper.remove_project.Goals as goal

pub returns-in-Ok-clause-kept : goal.returns-in-Ok-clause-kept
returns-in-Ok-clause-kept g c =
    told_answer g.S.Steady.is_steady c.args.self.now.is_old (state g.S.Store c.args.self.now.conn).now _ (λ steady is.
    let sure = g.met.S.Steady.stays c.remove_file.new.conn.store steady in
    c.in-Ok.ensures.kept sure.clean is)

pub returns-in-Ok-clause-removed : goal.returns-in-Ok-clause-removed
returns-in-Ok-clause-removed g c =
    told_becomes g.S.Steady.is_steady c.args.self.now.is_old (state g.S.Store c.args.self.now.conn).now (state g.S.Store c.remove_file.new.conn).now (without_project c.args.name.now) (λ k. refl) (λ steady is.
    let sure = g.met.S.Steady.stays c.remove_file.new.conn.store steady in
    let it = c.in-Ok.ensures.removed sure.clean is in
    (it.is, kept_is _ _ it))
