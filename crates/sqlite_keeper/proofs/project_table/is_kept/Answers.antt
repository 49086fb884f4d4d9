use Rattle.std.proofs.Common.{Ok, ap, ◌∙◌, is_some, slice_get}
use Rattle.sqlite.specs.Held.{state}
use Rattle.sqlite_keeper.proofs.Statements.{file_is}
use Rattle.sqlite_keeper.proofs.Undone.{query_stays}
use Rattle.sqlite_keeper.proofs.Within.{reads_within, within_ok, within_fails}
use Rattle.sqlite_keeper.proofs.Finding.{kept_of}
use Rattle.sqlite_keeper.proofs.project_table.is_kept.Goals as goal

pub returns-in_err-rows-clause-within : goal.returns-in_err-rows-clause-within
returns-in_err-rows-clause-within g c = λ is.
    let old = state g.S.Store c.args.tx.now.conn.now in
    let new = state g.S.Store c.query_all.new.self.conn.now in
    within_fails old new c.query_all.result c.from_residual.result c.from_residual.ensures.0 (reads_within _ _ old new c.query_all.result file_is.plain is.schema c.query_all.ensures.survives c.query_all.ensures.ok c.query_all.ensures.err)

pub returns-clause-kept : goal.returns-clause-kept
returns-clause-kept g c = λ clean is.
    c.has_row.ensures ∙ ap (λ l. is_some (slice_get l 0)) c.deref.ensures.value
    ∙ kept_of (state g.S.Store c.args.tx.now.conn.now) (state g.S.Store c.query_all.new.self.conn.now) c.args.name.now c.in_ok-rows.rows.items is (rw c.bytes.ensures.text at (c.in_ok-rows.ensures.ok clean))

pub returns-clause-stays : goal.returns-clause-stays
returns-clause-stays g c = λ clean is.
    query_stays _ _ (state g.S.Store c.args.tx.now.conn.now) (state g.S.Store c.query_all.new.self.conn.now) (Ok c.in_ok-rows.rows) file_is.plain is.schema (c.in_ok-rows.ensures.ok clean) tt

pub returns-clause-within : goal.returns-clause-within
returns-clause-within g c = λ is.
    let old = state g.S.Store c.args.tx.now.conn.now in
    let new = state g.S.Store c.query_all.new.self.conn.now in
    within_ok old new c.in_ok-rows.rows _ (reads_within _ _ old new (Ok c.in_ok-rows.rows) file_is.plain is.schema c.query_all.ensures.survives c.in_ok-rows.ensures.ok (λ k. tt))
