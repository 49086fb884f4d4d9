use Rattle.std.proofs.Common.{refl}
use Rattle.sqlite.specs.Held.{state}
use Rattle.sqlite_keeper.proofs.Undone.{execute_leaves}
use Rattle.sqlite_keeper.proofs.autocommit.execute.Goals as goal

pub returns-clause-err : goal.returns-clause-err
returns-clause-err g c = λ clean live.
    execute_leaves _ _ (state g.S.Store c.args.conn.now) (state g.S.Store c.execute.new.self) c.execute.result (c.execute.ensures.runs clean) (c.if-not-is_autocommit.ensures.settled refl) live
