use Rattle.std.proofs.Common.{◌≡◌, ◌+◌, cond, arith, map, option_map, get_or, sym, ap, ◌∙◌}
use Rattle.std.proofs.lemmas.List.{get_or_default}
use Rattle.std.proofs.lemmas.Result.{err_from_is_err_and}
use Rattle.tree_pool.specs.Content.{tree_at, trees_of}
use Rattle.tree_pool.specs.declared.TreeId.{TreeId}
use Rattle.result_keeper.specs.Entries.{pair_of}
use Rattle.stored_constants.proofs.HoldLaws.{step_refused, count_few, next_held, all_held, held_count, row_found, step_count}
use Rattle.stored_constants.proofs.hold.hold_rows.Goals as goal
use Rattle.stored_constants.proofs.hold.hold_rows.Goals.{then-branch, else-branch}

abbrev blank : TreeId
blank = record { 0 = 0 }

pub returns-clause-reused : goal.returns-clause-reused
returns-clause-reused c =
    let pool = c.args.pool.now in
    let rows = map pair_of c.args.rows.now in
    let ids = c.args.ids.now in
    held_count pool rows (trees_of pool ids) c.loop-id.constants c.loop-id.reused (all_held pool rows ids c.loop-id.id-index c.loop-id.constants c.loop-id.reused c.loop-id-test.false c.loop-id.invariant)

pub loop-id-preserved : goal.loop-id-preserved
loop-id-preserved c =
    let pool = c.args.pool.now in
    let rows = map pair_of c.args.rows.now in
    let ids = c.args.ids.now in
    let i = c.loop-id.id-index in
    let below = c.loop-id-test.true in
    let id = get_or ids i blank in
    let r = c.copied-row.result in
    let count = c.loop-id.reused in
    next_held pool rows ids i id (option_map (λ v. v.now) r) c.loop-id.constants c.hold_row.new.constants count c.if-branch.reused c.laws.ensures c.requires.known below (get_or_default ids i blank id below)
    (row_found pool.types c.in_ok-values.values rows c.as_slice.result.now (tree_at pool id.0) r c.in_ok-values.ensures (c.as_slice.ensures.value ∙ c.in_ok-text.ensures) (c.copied-row.ensures ∙ c.get.ensures.value))
    c.in_ok-hold_row.ensures.held
    (step_count count c.if-branch.reused c.in_ok-hold_row.field-0 r c.in_ok-hold_row.ensures.has
    (elim c.if-branch.branch [
      | then-branch w ↦ w.reused-is ∙ ap (λ x. count + cond x 1 0) (sym w.if-branch.true)
      | else-branch w ↦ (let same : c.if-branch.reused ≡ count + 0 = omega (arith, w.reused-is) in same ∙ ap (λ x. count + cond x 1 0) (sym w.if-branch.false))
    ]))
    c.loop-id.invariant

pub overflow_add-reused : goal.overflow_add-reused
overflow_add-reused c =
    let few = count_few c.args.pool.now (map pair_of c.args.rows.now) c.args.ids.now c.loop-id.id-index c.loop-id.constants c.loop-id.reused c.loop-id.invariant in
    omega (arith, few, c.requires.few)

pub returns-in_err-hold_row-clause-refused : goal.returns-in_err-hold_row-clause-refused
returns-in_err-hold_row-clause-refused c =
    let pool = c.args.pool.now in
    let rows = map pair_of c.args.rows.now in
    let ids = c.args.ids.now in
    let i = c.loop-id.id-index in
    let below = c.loop-id-test.true in
    let id = get_or ids i blank in
    let r = c.copied-row.result in
    let p = err_from_is_err_and c.from_residual-in_err-hold_row.result c.from_residual-in_err-hold_row.ensures.1 in
    rw (p.1, p.2)
    (step_refused pool rows ids i id (option_map (λ v. v.now) r) c.loop-id.constants c.loop-id.reused _ c.requires.known below (get_or_default ids i blank id below)
    (row_found pool.types c.in_ok-values.values rows c.as_slice.result.now (tree_at pool id.0) r c.in_ok-values.ensures (c.as_slice.ensures.value ∙ c.in_ok-text.ensures) (c.copied-row.ensures ∙ c.get.ensures.value))
    c.loop-id.invariant c.in_err-hold_row.ensures.refused)
