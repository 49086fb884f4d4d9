use Rattle.sqlite.specs.Held.{state}
use Rattle.sqlite_keeper.specs.Told.{kept_in}
use Rattle.sqlite_keeper.proofs.ResultRows.{replaced}
use Rattle.sqlite_keeper.proofs.result_table.replace_row.Goals as goal

pub returns-clause-put : goal.returns-clause-put
returns-clause-put g c = λ clean on is.
    let old = state g.S.Store c.args.tx.now.conn.now in
    let mid = state g.S.Store c.delete_row.new.tx.conn.now in
    let new = state g.S.Store c.insert_row.new.tx.conn.now in
    let before = c.insert_row.ensures.within.clean clean in
    let still = c.in_ok-delete_row.ensures.within.goes_on before on in
    replaced c.insert_row.result (kept_in old.now) mid.now new.now c.args.context.now c.args.tree.now c.args.value.now (c.in_ok-delete_row.ensures.removed before on is) (λ there free. c.insert_row.ensures.added free clean still there)
