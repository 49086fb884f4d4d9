use Rattle.sqlite.specs.Held.{state}
use Rattle.sqlite_keeper.proofs.ResultRows.{insert_within}
use Rattle.sqlite_keeper.proofs.result_table.insert_row.Goals as goal

pub returns-clause-added : goal.returns-clause-added
returns-clause-added g c = λ free clean on is.
    insert_within (state g.S.Store c.args.tx.now.conn.now) (state g.S.Store c.execute.new.self.conn.now) c.args.context.now c.args.tree.now c.args.value.now c.execute.result is free (c.execute.ensures.runs clean on)
