use Rattle.std.proofs.Common.{refl}
use Rattle.sqlite.specs.Held.{state}
use Rattle.sqlite_keeper.proofs.Undone.{query_leaves}
use Rattle.sqlite_keeper.proofs.autocommit.query.Goals as goal

pub returns-clause-err : goal.returns-clause-err
returns-clause-err g c = λ clean live.
    query_leaves _ _ (state g.S.Store c.args.conn.now) (state g.S.Store c.query_all.new.self) c.query_all.result (c.query_all.ensures.err clean) (c.if-not-is_autocommit.ensures.settled refl) live
