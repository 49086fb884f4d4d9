use Rattle.sqlite.specs.Held.{state}
use Rattle.sqlite_keeper.specs.Told.{kept_in}
use Rattle.sqlite_keeper.proofs.ProjectRows.{replaced}
use Rattle.sqlite_keeper.proofs.project_table.replace_file.Goals as goal

pub returns-clause-put : goal.returns-clause-put
returns-clause-put g c = λ clean on is.
    let old = state g.S.Store c.args.tx.now.conn.now in
    let mid = state g.S.Store c.delete_file.new.tx.conn.now in
    let new = state g.S.Store c.insert_file.new.tx.conn.now in
    let before = c.insert_file.ensures.within.clean clean in
    let still = c.in_ok-delete_file.ensures.within.goes_on before on in
    replaced c.insert_file.result (kept_in old.now) mid.now new.now c.args.name.now c.args.file.now (c.in_ok-delete_file.ensures.removed before on is) (λ there free. c.insert_file.ensures.added free clean still there)
