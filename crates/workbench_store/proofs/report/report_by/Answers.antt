use Rattle.std.proofs.Common.{◌≡◌, ◌≤◌, ◌⊎◌, map, length, subst, sym}
use Rattle.std.proofs.lemmas.Result.{err_from_is_err_and}
use Rattle.limits.specs.declared.TheConstants.{MOST_LISTED_TREES}
use Rattle.plain_trees.specs.Plain.{Plain}
use Rattle.plain_trees.specs.Text.{tree_text}
use Rattle.tree_pool.specs.Content.{trees_of}
use Rattle.twisted_antipode.specs.Held.{held_over}
use Rattle.result_keeper.specs.Entries.{pair_of}
use Rattle.stored_constants.specs.Rows.{AreHeldRows, IsFirstNoValue}
use Rattle.workbench_core.specs.declared.refusal.Refusal.TheVariants.{Memory, StoredRow}
use Rattle.workbench_core.specs.Completed.{completed_rule}
use Rattle.workbench_core.specs.Compute.{held_among}
use Rattle.workbench_store.proofs.ReportLemmas.{held_for, unread_row, values_past, few_listed, reused_at_most, reported_by, worked_by}
use Rattle.workbench_store.proofs.report.report_by.Goals as goal

pub held_rows-requires-clause-few : goal.held_rows-requires-clause-few
held_rows-requires-clause-few c = subst (λ ids. length ids ≤ MOST_LISTED_TREES) (sym c.as_slice.ensures) (few_listed c.args.completed c.requires.facts)

pub returns-in_err-constants-clause-refused : goal.returns-in_err-constants-clause-refused
returns-in_err-constants-clause-refused c =
    let p = err_from_is_err_and c.from_residual.result c.from_residual.ensures.1 in
    let done = c.args.completed in
    let rows = map pair_of c.args.rows.now in
    let e = c.in_err-constants.field-0.0 in
    let refused = subst (λ ids. (e ≡ Memory) ⊎ ((t : Plain) × IsFirstNoValue done.pool.types rows (trees_of done.pool ids) t × (e ≡ StoredRow c.args.context.now (tree_text done.pool.types t)))) c.as_slice.ensures c.in_err-constants.ensures.refused in
    rw (p.1, p.2) (unread_row done c.requires.facts.types rows c.args.context.now e refused)

pub returns-in_err-reported-clause-refused : goal.returns-in_err-reported-clause-refused
returns-in_err-reported-clause-refused c =
    let p = err_from_is_err_and c.from_residual-in_err-reported.result c.from_residual-in_err-reported.ensures.1 in
    let done = c.args.completed in
    let rows = map pair_of c.args.rows.now in
    let hs = c.in_ok-constants.field-0.constants in
    let over = subst (λ ids. AreHeldRows done.pool.types rows (trees_of done.pool ids) (held_over done.pool hs)) c.as_slice.ensures c.in_ok-constants.ensures.rows in
    let are = held_for done c.requires.facts.types rows c.args.context.now hs over in
    rw (p.1, p.2) (values_past (completed_rule done) rows c.args.context.now (held_over done.pool hs) are c.in_err-reported.field-0.0 c.in_err-reported.ensures.refused)

pub with_rows-requires-clause-held : goal.with_rows-requires-clause-held
with_rows-requires-clause-held c =
    let done = c.args.completed in
    let hs = c.in_ok-constants.field-0.constants in
    let reused = subst (λ ids. c.in_ok-constants.field-0.reused ≡ length (held_among (held_over done.pool hs) (trees_of done.pool ids))) c.as_slice.ensures c.in_ok-constants.ensures.reused in
    reused_at_most (completed_rule done) (held_over done.pool hs) c.in_ok-reported.reported c.in_ok-constants.field-0.reused c.in_ok-reported.ensures.values reused

pub returns-clause-report : goal.returns-clause-report
returns-clause-report c =
    let done = c.args.completed in
    let rows = map pair_of c.args.rows.now in
    let hs = c.in_ok-constants.field-0.constants in
    let over = subst (λ ids. AreHeldRows done.pool.types rows (trees_of done.pool ids) (held_over done.pool hs)) c.as_slice.ensures c.in_ok-constants.ensures.rows in
    let are = held_for done c.requires.facts.types rows c.args.context.now hs over in
    let reused = subst (λ ids. c.in_ok-constants.field-0.reused ≡ length (held_among (held_over done.pool hs) (trees_of done.pool ids))) c.as_slice.ensures c.in_ok-constants.ensures.reused in
    reported_by (completed_rule done) rows c.args.context.now (held_over done.pool hs) are c.in_ok-reported.reported c.in_ok-constants.field-0.reused c.in_ok-reported.ensures.values reused c.with_rows.result c.with_rows.ensures.report c.with_rows.ensures.rows

pub returns-clause-work : goal.returns-clause-work
returns-clause-work c =
    let done = c.args.completed in
    let rows = map pair_of c.args.rows.now in
    let hs = c.in_ok-constants.field-0.constants in
    let over = subst (λ ids. AreHeldRows done.pool.types rows (trees_of done.pool ids) (held_over done.pool hs)) c.as_slice.ensures c.in_ok-constants.ensures.rows in
    let are = held_for done c.requires.facts.types rows c.args.context.now hs over in
    let reused = subst (λ ids. c.in_ok-constants.field-0.reused ≡ length (held_among (held_over done.pool hs) (trees_of done.pool ids))) c.as_slice.ensures c.in_ok-constants.ensures.reused in
    worked_by (completed_rule done) rows c.args.context.now (held_over done.pool hs) are c.in_ok-reported.reported c.in_ok-constants.field-0.reused c.in_ok-reported.ensures.values reused c.with_rows.result _ _ c.with_rows.ensures.report c.in_ok-reported.ensures.work
