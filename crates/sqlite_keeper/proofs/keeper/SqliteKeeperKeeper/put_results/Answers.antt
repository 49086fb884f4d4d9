use Rattle.std.proofs.Common.{refl, map}
use Rattle.sqlite.specs.Held.{state}
use Rattle.result_keeper.specs.Kept.{with_rows}
use Rattle.result_keeper.specs.Entries.{pair_of}
use Rattle.sqlite_keeper.proofs.Telling.{told_becomes, kept_is}
use Rattle.sqlite_keeper.proofs.keeper.SqliteKeeperKeeper.put_results.Goals as goal

pub returns-in-Ok-clause-put : goal.returns-in-Ok-clause-put
returns-in-Ok-clause-put g c =
    told_becomes g.S.Steady.is_steady c.args.self.now.is_old (state g.S.Store c.args.self.now.conn).now (state g.S.Store c.keep_rows.new.conn).now (with_rows c.args.context.now (map pair_of c.args.rows.now)) (λ k. refl) (λ steady is.
    let sure = g.met.S.Steady.stays c.keep_rows.new.conn.store steady in
    let it = c.in-Ok.ensures.put sure.clean is in
    (it.is, kept_is _ _ it))
