use Rattle.std.proofs.Common.{map}
use Rattle.sqlite.specs.Held.{state}
use Rattle.result_keeper.specs.Entries.{context_pair}
use Rattle.sqlite_keeper.specs.Told.{kept_in}
use Rattle.sqlite_keeper.specs.Changes.{with_moved}
use Rattle.sqlite_keeper.proofs.Versions.{then_version}
use Rattle.sqlite_keeper.proofs.version.migrate_within.Goals as goal

pub returns-clause-migrated : goal.returns-clause-migrated
returns-clause-migrated g c = λ can clean on is.
    let old = state g.S.Store c.args.tx.now.conn.now in
    let mid = state g.S.Store c.move_each.new.tx.conn.now in
    let new = state g.S.Store c.put_version_within.new.tx.conn.now in
    let before = c.put_version_within.ensures.within.clean clean in
    let still = c.in_ok-move_each.ensures.within.goes_on before on in
    then_version c.put_version_within.result (with_moved (map context_pair c.args.pairs.now) (kept_in old.now)) mid.now new.now (c.in_ok-move_each.ensures.moved can before on is) (λ there. c.put_version_within.ensures.put clean still there)
