use Rattle.sqlite.specs.Held.{state}
use Rattle.sqlite_keeper.proofs.Statements.{names_is}
use Rattle.sqlite_keeper.proofs.Undone.{query_still}
use Rattle.sqlite_keeper.proofs.Names.{names_of_rows_if}
use Rattle.sqlite_keeper.proofs.project_table.named_rows.Goals as goal

pub returns-clause-rows : goal.returns-clause-rows
returns-clause-rows g c = λ clean is. names_of_rows_if (state g.S.Store c.args.conn.now) (state g.S.Store c.query.new.conn) c.query.result is (c.query.ensures.shown clean)

pub returns-clause-stays : goal.returns-clause-stays
returns-clause-stays g c = λ clean live.
    query_still _ _ (state g.S.Store c.args.conn.now) (state g.S.Store c.query.new.conn) c.query.result names_is.plain (c.query.ensures.shown clean) (c.query.ensures.err clean live)
