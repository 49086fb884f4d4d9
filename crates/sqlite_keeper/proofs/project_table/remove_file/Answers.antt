use Rattle.sqlite.specs.Held.{state}
use Rattle.sqlite_keeper.proofs.ProjectRows.{removes_project, removed_tables, was_kept}
use Rattle.sqlite_keeper.proofs.project_table.remove_file.Goals as goal

pub returns-clause-kept : goal.returns-clause-kept
returns-clause-kept g c = λ clean is.
    let old = state g.S.Store c.args.conn.now in
    let new = state g.S.Store c.execute.new.conn in
    was_kept c.args.name.now old.now new.now c.in_ok-removed.removed is (removes_project old new c.args.name.now c.in_ok-removed.removed is (rw c.bytes.ensures.text at (c.in_ok-removed.ensures.runs clean)))

pub returns-clause-removed : goal.returns-clause-removed
returns-clause-removed g c = λ clean is.
    let old = state g.S.Store c.args.conn.now in
    let new = state g.S.Store c.execute.new.conn in
    removed_tables c.args.name.now old.now new.now c.in_ok-removed.removed is (removes_project old new c.args.name.now c.in_ok-removed.removed is (rw c.bytes.ensures.text at (c.in_ok-removed.ensures.runs clean)))
