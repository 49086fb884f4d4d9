use Rattle.std.proofs.Common.{Ok, refl, subst, ◌∙◌, arith, map}
use Rattle.std.proofs.lemmas.List.{take_all, length-map}
use Rattle.sqlite.specs.Held.{state}
use Rattle.result_keeper.specs.Entries.{context_pair}
use Rattle.sqlite_keeper.specs.Changes.{HasMoved}
use Rattle.sqlite_keeper.proofs.Within.{within_here, within_then, within_ok, within_fails}
use Rattle.sqlite_keeper.proofs.Moving.{none_moved, moved_next, moved_tables}
use Rattle.sqlite_keeper.proofs.version.move_each.Goals as goal

pub loop-pair-init : goal.loop-pair-init
loop-pair-init g c = (refl, within_here (state g.S.Store c.args.tx.now.conn.now), λ clean on is can. none_moved (state g.S.Store c.args.tx.now.conn.now).now is)

pub returns-in_err-move_context-clause-same_reference : goal.returns-in_err-move_context-clause-same_reference
returns-in_err-move_context-clause-same_reference g c = c.move_context.ensures.same_reference ∙ c.loop-pair.invariant.0

pub returns-in_err-move_context-clause-within : goal.returns-in_err-move_context-clause-within
returns-in_err-move_context-clause-within g c =
    let first = state g.S.Store c.args.tx.now.conn.now in
    let mid = state g.S.Store c.loop-pair.tx.conn.now in
    let new = state g.S.Store c.move_context.new.tx.conn.now in
    within_fails first new c.move_context.result c.from_residual.result c.from_residual.ensures.0 (within_then first mid new tt c.move_context.result c.loop-pair.invariant.1 c.move_context.ensures.within)

pub loop-pair-preserved : goal.loop-pair-preserved
loop-pair-preserved g c =
    let first = state g.S.Store c.args.tx.now.conn.now in
    let mid = state g.S.Store c.loop-pair.tx.conn.now in
    let new = state g.S.Store c.move_context.new.tx.conn.now in
    let pairs = map context_pair c.args.pairs.now in
    let pair = c.pair-item.result in
    let at = c.loop-pair.pair-index in
    let ran = c.in_ok-move_context.ensures in
    let within = within_then first mid new tt (Ok c.in_ok-move_context.field-0) c.loop-pair.invariant.1 ran.within in (
      ran.same_reference ∙ c.loop-pair.invariant.0,
      within_ok first new c.in_ok-move_context.field-0 tt within,
      λ clean on is can.
          let before = ran.within.clean clean in
          let there = c.loop-pair.invariant.2 before on is can in
          moved_next c.args.pairs.now at pair first.now mid.now new.now c.loop-pair-test.true c.pair-item.is can there (ran.moved clean (c.loop-pair.invariant.1.goes_on before on) there.is),
    )

pub returns-clause-same_reference : goal.returns-clause-same_reference
returns-clause-same_reference g c = c.loop-pair.invariant.0

pub returns-clause-moved : goal.returns-clause-moved
returns-clause-moved g c = λ can clean on is.
    let first = state g.S.Store c.args.tx.now.conn.now in
    let new = state g.S.Store c.loop-pair.tx.conn.now in
    let pairs = map context_pair c.args.pairs.now in
    moved_tables pairs first.now new.now is can (subst (λ ps. HasMoved ps first.now new.now) (take_all c.loop-pair.pair-index pairs (omega (arith, c.loop-pair-test.false, length-map c.args.pairs.now context_pair))) (c.loop-pair.invariant.2 clean on is can))

pub returns-clause-within : goal.returns-clause-within
returns-clause-within g c = c.loop-pair.invariant.1
