use Rattle.sqlite.specs.Held.{state}
use Rattle.sqlite_keeper.proofs.Versions.{version_within}
use Rattle.sqlite_keeper.proofs.version.put_version_within.Goals as goal

pub returns-clause-put : goal.returns-clause-put
returns-clause-put g c = λ clean on is.
    version_within (state g.S.Store c.args.tx.now.conn.now) (state g.S.Store c.execute.new.self.conn.now) c.execute.result is (c.execute.ensures.runs clean on)
