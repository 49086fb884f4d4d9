use Rattle.std.proofs.Common.{◌≡◌, map, refl, subst, sym, IfSome}
use Rattle.std.proofs.lemmas.Result.{err_from_is_err_and}
use Rattle.result_keeper.specs.Entries.{pair_of}
use Rattle.result_keeper.specs.Kept.{with_rows}
use Rattle.result_keeper.specs.Told.{Becomes}
use Rattle.workbench_core.specs.Completed.{completed_rule}
use Rattle.workbench_store.specs.Computing.{used_rows}
use Rattle.workbench_store.specs.NewReports.{stored}
use Rattle.workbench_store.proofs.ComputingLemmas.{no_new_rows, report_put}
use Rattle.workbench_store.proofs.computing.compute_completed.Goals as goal

pub returns-in_err-computed-clause-done : goal.returns-in_err-computed-clause-done
returns-in_err-computed-clause-done g c =
    let p = err_from_is_err_and c.from_residual-in_err-computed.result c.from_residual-in_err-computed.ensures.1 in
    let told = g.K.Keeper.told c.args.keeper.now in
    let are = subst (λ rs. IfSome told (λ k. map pair_of rs ≡ used_rows c.args.fresh k c.args.context.now)) (sym c.deref.ensures.value) c.in_ok-rows.ensures.rows in
    rw (p.1, p.2) (no_new_rows c.args.fresh (completed_rule c.args.completed) c.args.context.now c.requires.context (map pair_of c.deref.result.now) _ _ c.in_ok-rows.ensures.stays are c.in_err-computed.field-0.0 c.in_err-computed.ensures.refused)

pub returns-clause-done : goal.returns-clause-done
returns-clause-done g c =
    let told = g.K.Keeper.told in
    let are = subst (λ rs. IfSome (told c.args.keeper.now) (λ k. map pair_of rs ≡ used_rows c.args.fresh k c.args.context.now)) (sym c.deref.ensures.value) c.in_ok-rows.ensures.rows in
    let put = subst (λ rs. Becomes (with_rows c.args.context.now (map pair_of rs)) (told c.rows_to_use.new.keeper) (told c.put_rows.new.keeper)) c.deref-2.ensures.value c.in_ok-put_rows.ensures.put in
    report_put c.args.fresh (completed_rule c.args.completed) c.args.context.now c.requires.context (map pair_of c.deref.result.now) _ _ c.in_ok-rows.ensures.stays are _ (stored c.args.context.now c.in_ok-computed.field-0) refl c.in_ok-computed.ensures.report put
