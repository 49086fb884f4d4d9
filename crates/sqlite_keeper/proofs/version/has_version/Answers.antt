use Rattle.std.proofs.Common.{if◌then◌else◌, ap, ◌∙◌}
use Rattle.sqlite.specs.Held.{state}
use Rattle.sqlite_keeper.proofs.Statements.{version_is}
use Rattle.sqlite_keeper.proofs.Undone.{query_still}
use Rattle.sqlite_keeper.proofs.Versions.{version_of_rows}
use Rattle.sqlite_keeper.proofs.version.has_version.Goals as goal

pub returns-clause-has : goal.returns-clause-has
returns-clause-has g c = λ steady is.
    let sure = g.met.S.Steady.stays c.query.new.conn.store steady in
    ap (λ b. if b then 2 else 1) (rw c.deref.ensures.value at c.has_row.ensures)
    ∙ version_of_rows (state g.S.Store c.args.conn.now) (state g.S.Store c.query.new.conn) c.in_ok-rows.rows.items is (c.in_ok-rows.ensures.shown sure.clean)

pub returns-clause-stays : goal.returns-clause-stays
returns-clause-stays g c = λ steady either.
    let sure = g.met.S.Steady.stays c.query.new.conn.store steady in
    query_still _ _ (state g.S.Store c.args.conn.now) (state g.S.Store c.query.new.conn) c.query.result version_is.plain (c.query.ensures.shown sure.clean) (c.query.ensures.err sure.clean sure.is_open) either
