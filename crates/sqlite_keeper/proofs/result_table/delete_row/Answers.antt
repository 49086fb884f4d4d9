use Rattle.sqlite.specs.Held.{state}
use Rattle.sqlite_keeper.proofs.ResultRows.{delete_within}
use Rattle.sqlite_keeper.proofs.result_table.delete_row.Goals as goal

pub returns-clause-removed : goal.returns-clause-removed
returns-clause-removed g c = λ clean on is.
    delete_within (state g.S.Store c.args.tx.now.conn.now) (state g.S.Store c.execute.new.self.conn.now) c.args.context.now c.args.tree.now c.execute.result is (c.execute.ensures.runs clean on)
