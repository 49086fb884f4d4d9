use Rattle.sqlite.specs.Held.{state}
use Rattle.sqlite_keeper.proofs.Making.{opens_first}
use Rattle.sqlite_keeper.proofs.keeper.prepare.Goals as goal

pub returns-clause-grown : goal.returns-clause-grown
returns-clause-grown g c = λ steady is.
    opens_first c.is_old.result (state g.S.Store c.args.conn.now).now (state g.S.Store c.make_tables.new.conn).now (state g.S.Store c.is_old.new.conn).now is (c.in_ok-make_tables.ensures.grown steady is.schema) (c.is_old.ensures steady)
