use Rattle.sqlite.specs.Held.{state}
use Rattle.sqlite_keeper.proofs.Moving.{move_within}
use Rattle.sqlite_keeper.proofs.version.move_context.Goals as goal

pub returns-clause-moved : goal.returns-clause-moved
returns-clause-moved g c = λ clean on is.
    let ran = rw (c.deref.ensures.value, c.deref-2.ensures.value) at (c.execute.ensures.runs clean on) in
    move_within (state g.S.Store c.args.tx.now.conn.now) (state g.S.Store c.execute.new.self.conn.now) c.args.pair.now.old.items c.args.pair.now.new.items c.execute.result is ran
