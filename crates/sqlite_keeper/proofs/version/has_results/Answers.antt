use mir.Syntax.{w64}
use mir.Val.{SFits}
use Rattle.std.proofs.Common.{rules, ◌∙◌}
use Rattle.std.proofs.lemmas.Int.{to_z-of_z}
use Rattle.sqlite.specs.Held.{state}
use Rattle.sqlite_keeper.proofs.Counting.{count_results_is, number_of_results, some_results}
use Rattle.sqlite_keeper.proofs.Undone.{query_still}
use Rattle.sqlite_keeper.proofs.version.has_results.Goals as goal

pub returns-in_err-count-clause-stays : goal.returns-in_err-count-clause-stays
returns-in_err-count-clause-stays g c = λ steady either.
    let sure = g.met.S.Steady.stays c.query.new.conn.store steady in
    query_still _ _ (state g.S.Store c.args.conn.now) (state g.S.Store c.query.new.conn) c.query.result count_results_is.plain (c.query.ensures.shown sure.clean) (c.query.ensures.err sure.clean sure.is_open) either

pub returns-clause-has : goal.returns-clause-has
returns-clause-has g c = λ steady is.
    let sure = g.met.S.Steady.stays c.query.new.conn.store steady in
    let old = state g.S.Store c.args.conn.now in
    let number = number_of_results old (state g.S.Store c.query.new.conn) c.in_ok-rows.rows.items c.in_ok-count.count is (c.in_ok-rows.ensures.shown sure.clean) (rw c.deref.ensures.value at c.in_ok-count.ensures) in
    let fits : SFits w64 c.in_ok-count.count = search rules in
    c.are_some.ensures _ (to_z-of_z w64 c.in_ok-count.count fits ∙ number) ∙ some_results old.now

pub returns-clause-stays : goal.returns-clause-stays
returns-clause-stays g c = λ steady either.
    let sure = g.met.S.Steady.stays c.query.new.conn.store steady in
    query_still _ _ (state g.S.Store c.args.conn.now) (state g.S.Store c.query.new.conn) c.query.result count_results_is.plain (c.query.ensures.shown sure.clean) (c.query.ensures.err sure.clean sure.is_open) either
