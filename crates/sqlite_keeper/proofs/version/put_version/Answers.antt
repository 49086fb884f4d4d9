use Rattle.sqlite.specs.Held.{state}
use Rattle.sqlite_keeper.proofs.Versions.{version_kept}
use Rattle.sqlite_keeper.proofs.version.put_version.Goals as goal

pub returns : goal.returns
returns g c = λ steady is.
    let sure = g.met.S.Steady.stays c.execute.new.conn.store steady in
    version_kept (state g.S.Store c.args.conn.now) (state g.S.Store c.execute.new.conn) c.in_ok-execute.field-0 is (c.in_ok-execute.ensures.runs sure.clean)
