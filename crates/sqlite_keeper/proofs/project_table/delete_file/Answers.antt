use Rattle.sqlite.specs.Held.{state}
use Rattle.sqlite_keeper.proofs.ProjectRows.{delete_within}
use Rattle.sqlite_keeper.proofs.project_table.delete_file.Goals as goal

pub returns-clause-removed : goal.returns-clause-removed
returns-clause-removed g c = λ clean on is.
    delete_within (state g.S.Store c.args.tx.now.conn.now) (state g.S.Store c.execute.new.self.conn.now) c.args.name.now c.execute.result is (rw c.bytes.ensures.text at (c.execute.ensures.runs clean on))
