use Rattle.std.proofs.lemmas.Result.{err_from_is_err_and}
use Rattle.workbench_store.proofs.ProjectLemmas.{is_put, unchecked}
use Rattle.workbench_store.proofs.SteppedLemmas.{stays_itself}
use Rattle.workbench_store.proofs.project.add.Goals as goal

pub returns-in_err-check-clause-done : goal.returns-in_err-check-clause-done
returns-in_err-check-clause-done g c =
    let p = err_from_is_err_and c.from_residual.result c.from_residual.ensures.1 in
    rw (p.1, p.2) (unchecked c.args.name.now c.args.file.now _ _ (stays_itself _) c.in_err-check.ensures.refused)

pub returns-in-Ok-clause-done : goal.returns-in-Ok-clause-done
returns-in-Ok-clause-done g c = is_put c.args.name.now c.args.file.now c.in_ok-check.field-0.items c.in-Ok.put _ _ c.in_ok-check.ensures.text c.in-Ok.ensures.answer c.in-Ok.ensures.put
