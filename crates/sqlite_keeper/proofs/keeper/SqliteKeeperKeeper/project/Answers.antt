use Rattle.std.proofs.Common.{inl, inr, subst, sym, ◌≡◌}
use Rattle.sqlite.specs.Held.{state}
use Rattle.result_keeper.specs.Entries.{file_bytes}
use Rattle.std.specs.FinMap.{get}
use Rattle.sqlite_keeper.specs.Tables.{IsStore}
use Rattle.sqlite_keeper.specs.Told.{kept_in}
use Rattle.sqlite_keeper.proofs.Telling.{told_answer, told_stays}
use Rattle.sqlite_keeper.proofs.keeper.SqliteKeeperKeeper.project.Goals as goal

pub returns-in-Ok-clause-file : goal.returns-in-Ok-clause-file
returns-in-Ok-clause-file g c =
    let old = (state g.S.Store c.args.self.now.conn).now in
    let new = (state g.S.Store c.find_file.new.conn).now in
    told_answer g.S.Steady.is_steady c.args.self.now.is_old new _ (λ steady is.
    let sure = g.met.S.Steady.stays c.find_file.new.conn.store steady in
    let same : new ≡ old = c.in-Ok.ensures.stays sure.clean sure.is_open (inr is) in
    subst (λ d. (file_bytes c.in-Ok.file ≡ get (kept_in d).projects c.args.name.now)) (sym same) (c.in-Ok.ensures.file sure.clean (subst IsStore same is)))

pub returns-in-Ok-clause-stays : goal.returns-in-Ok-clause-stays
returns-in-Ok-clause-stays g c =
    told_stays g.S.Steady.is_steady c.args.self.now.is_old (state g.S.Store c.args.self.now.conn).now (state g.S.Store c.find_file.new.conn).now (λ steady is.
    let sure = g.met.S.Steady.stays c.find_file.new.conn.store steady in
    c.find_file.ensures.stays sure.clean sure.is_open (inl is))

pub returns-in-Err-clause-stays : goal.returns-in-Err-clause-stays
returns-in-Err-clause-stays g c =
    told_stays g.S.Steady.is_steady c.args.self.now.is_old (state g.S.Store c.args.self.now.conn).now (state g.S.Store c.find_file.new.conn).now (λ steady is.
    let sure = g.met.S.Steady.stays c.find_file.new.conn.store steady in
    c.find_file.ensures.stays sure.clean sure.is_open (inl is))
