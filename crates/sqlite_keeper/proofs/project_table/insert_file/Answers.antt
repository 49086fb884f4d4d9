use Rattle.std.proofs.Common.{◌≡◌, true, ap, ◌∙◌, sym}
use Rattle.sqlite.specs.Held.{state}
use Rattle.result_keeper.specs.ProjectName.{is_project_name}
use Rattle.sqlite_keeper.proofs.ProjectRows.{insert_within}
use Rattle.sqlite_keeper.proofs.project_table.insert_file.Goals as goal

pub returns-clause-added : goal.returns-clause-added
returns-clause-added g c = λ free clean on is.
    let fine : is_project_name c.args.name.now ≡ true = ap is_project_name (sym c.bytes.ensures.text) ∙ c.bytes.ensures.name in
    insert_within (state g.S.Store c.args.tx.now.conn.now) (state g.S.Store c.execute.new.self.conn.now) c.args.name.now c.args.file.now c.execute.result fine is free (rw c.bytes.ensures.text at (c.execute.ensures.runs clean on))
