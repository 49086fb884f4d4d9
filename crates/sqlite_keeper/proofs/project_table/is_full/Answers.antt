use mir.Syntax.{w64}
use mir.Val.{SFits}
use Rattle.std.proofs.Common.{Ok, rules, ◌∙◌}
use Rattle.std.proofs.lemmas.Int.{to_z-of_z}
use Rattle.sqlite.specs.Held.{state}
use Rattle.sqlite_keeper.proofs.Undone.{query_stays}
use Rattle.sqlite_keeper.proofs.Within.{reads_within, within_ok, within_fails}
use Rattle.sqlite_keeper.proofs.Counting.{count_projects_is, number_of_rows, full_of_rows}
use Rattle.sqlite_keeper.proofs.project_table.is_full.Goals as goal

pub returns-in_err-rows-clause-within : goal.returns-in_err-rows-clause-within
returns-in_err-rows-clause-within g c = λ is.
    let old = state g.S.Store c.args.tx.now.conn.now in
    let new = state g.S.Store c.query_all.new.self.conn.now in
    within_fails old new c.query_all.result c.from_residual.result c.from_residual.ensures.0 (reads_within _ _ old new c.query_all.result count_projects_is.plain is.schema c.query_all.ensures.survives c.query_all.ensures.ok c.query_all.ensures.err)

pub returns-in_err-count-clause-within : goal.returns-in_err-count-clause-within
returns-in_err-count-clause-within g c = λ is.
    let old = state g.S.Store c.args.tx.now.conn.now in
    let new = state g.S.Store c.query_all.new.self.conn.now in
    within_fails old new c.query_all.result c.from_residual-in_err-count.result c.from_residual-in_err-count.ensures.0
    (reads_within _ _ old new c.query_all.result count_projects_is.plain is.schema c.query_all.ensures.survives c.query_all.ensures.ok c.query_all.ensures.err)

pub returns-clause-full : goal.returns-clause-full
returns-clause-full g c = λ clean is.
    let old = state g.S.Store c.args.tx.now.conn.now in
    let new = state g.S.Store c.query_all.new.self.conn.now in
    let number = number_of_rows old new c.in_ok-rows.rows.items c.in_ok-count.count is (c.in_ok-rows.ensures.ok clean) (rw c.deref.ensures.value at c.in_ok-count.ensures) in
    let fits : SFits w64 c.in_ok-count.count = search rules in
    c.are_most.ensures _ (to_z-of_z w64 c.in_ok-count.count fits ∙ number) ∙ full_of_rows old.now is

pub returns-clause-stays : goal.returns-clause-stays
returns-clause-stays g c = λ clean is.
    query_stays _ _ (state g.S.Store c.args.tx.now.conn.now) (state g.S.Store c.query_all.new.self.conn.now) (Ok c.in_ok-rows.rows) count_projects_is.plain is.schema (c.in_ok-rows.ensures.ok clean) tt

pub returns-clause-within : goal.returns-clause-within
returns-clause-within g c = λ is.
    let old = state g.S.Store c.args.tx.now.conn.now in
    let new = state g.S.Store c.query_all.new.self.conn.now in
    within_ok old new c.in_ok-rows.rows _ (reads_within _ _ old new (Ok c.in_ok-rows.rows) count_projects_is.plain is.schema c.query_all.ensures.survives c.in_ok-rows.ensures.ok (λ k. tt))
