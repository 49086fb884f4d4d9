use Rattle.std.proofs.Common.{◌+◌, ◌++◌, [], ◌∷◌, Ok, refl, sym, ap, subst, ◌∙◌, arith, map, take}
use Rattle.std.proofs.lemmas.List.{take_more, take_all}
use Rattle.sqlite.specs.Held.{state}
use Rattle.result_keeper.specs.Entries.{pair_of}
use Rattle.result_keeper.specs.Kept.{with_rows}
use Rattle.sqlite_keeper.specs.Told.{kept_in}
use Rattle.sqlite_keeper.specs.Changes.{HasTables}
use Rattle.sqlite_keeper.proofs.Within.{within_here, within_then, within_ok, within_fails}
use Rattle.sqlite_keeper.proofs.ResultRows.{put_more}
use Rattle.sqlite_keeper.proofs.result_table.put_each.Goals as goal

pub loop-row-init : goal.loop-row-init
loop-row-init g c = (refl, within_here (state g.S.Store c.args.tx.now.conn.now), λ clean on is. record { is = is; version = refl; projects = refl; rows = refl })

pub returns-in_err-replace_row-clause-same_reference : goal.returns-in_err-replace_row-clause-same_reference
returns-in_err-replace_row-clause-same_reference g c = c.replace_row.ensures.same_reference ∙ c.loop-row.invariant.0

pub returns-in_err-replace_row-clause-within : goal.returns-in_err-replace_row-clause-within
returns-in_err-replace_row-clause-within g c =
    let first = state g.S.Store c.args.tx.now.conn.now in
    let mid = state g.S.Store c.loop-row.tx.conn.now in
    let new = state g.S.Store c.replace_row.new.tx.conn.now in
    within_fails first new c.replace_row.result c.from_residual.result c.from_residual.ensures.0 (within_then first mid new tt c.replace_row.result c.loop-row.invariant.1 c.replace_row.ensures.within)

pub loop-row-preserved : goal.loop-row-preserved
loop-row-preserved g c =
    let first = state g.S.Store c.args.tx.now.conn.now in
    let mid = state g.S.Store c.loop-row.tx.conn.now in
    let new = state g.S.Store c.replace_row.new.tx.conn.now in
    let rows = c.args.rows.now in
    let row = c.row-item.result in
    let at = c.loop-row.row-index in
    let more = take_more rows at row c.loop-row-test.true ∙ ap (λ r. take at rows ++ r ∷ []) (sym c.row-item.is) in
    let ran = c.in_ok-replace_row.ensures in
    let within = within_then first mid new tt (Ok c.in_ok-replace_row.field-0) c.loop-row.invariant.1 ran.within in (
      ran.same_reference ∙ c.loop-row.invariant.0,
      within_ok first new c.in_ok-replace_row.field-0 tt within,
      λ clean on is.
          let before = ran.within.clean clean in
          let there = c.loop-row.invariant.2 before on is in
          let step = rw (c.deref.ensures.value, c.deref-in-loop-row.ensures.value) at (ran.put clean (c.loop-row.invariant.1.goes_on before on) there.is) in
          put_more first.now mid.now new.now c.args.context.now (take at rows) (take (at + 1) rows) row more there step,
    )

pub returns-clause-same_reference : goal.returns-clause-same_reference
returns-clause-same_reference g c = c.loop-row.invariant.0

pub returns-clause-put : goal.returns-clause-put
returns-clause-put g c = λ clean on is.
    let first = state g.S.Store c.args.tx.now.conn.now in
    let rows = c.args.rows.now in
    subst (λ l. HasTables (with_rows c.args.context.now (map pair_of l) (kept_in first.now)) (state g.S.Store c.loop-row.tx.conn.now).now)
    (take_all c.loop-row.row-index rows (omega (arith, c.loop-row-test.false))) (c.loop-row.invariant.2 clean on is)

pub returns-clause-within : goal.returns-clause-within
returns-clause-within g c = c.loop-row.invariant.1
