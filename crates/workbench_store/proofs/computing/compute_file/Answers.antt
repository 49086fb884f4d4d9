use Rattle.std.proofs.Common.{inr, Err, refl}
use Rattle.std.proofs.lemmas.Result.{err_from_is_err_and}
use Rattle.workbench_core.specs.declared.refusal.Refusal.TheVariants.{Memory}
use Rattle.workbench_core.specs.Completed.{completed_rule}
use Rattle.workbench_store.specs.Computing.{StoresFile}
use Rattle.workbench_store.proofs.SteppedLemmas.{stays_itself, halts}
use Rattle.workbench_store.proofs.ComputingLemmas.{file_not_completed, report_of_completed}
use Rattle.workbench_store.proofs.computing.compute_file.Goals as goal

pub returns-in_err-completed-clause-done : goal.returns-in_err-completed-clause-done
returns-in_err-completed-clause-done g c =
    let p = err_from_is_err_and c.from_residual.result c.from_residual.ensures.1 in
    rw (p.1, p.2) (file_not_completed c.args.fresh c.args.file.now _ _ (stays_itself _) c.in_err-completed.ensures.refused)

pub returns-in_err-context-clause-done : goal.returns-in_err-context-clause-done
returns-in_err-context-clause-done g c =
    let p = err_from_is_err_and c.from_residual-in_err-context.result c.from_residual-in_err-context.ensures.1 in
    rw (p.1, p.2) (halts (StoresFile c.args.fresh c.args.file.now) _ _ (Err Memory) Memory (stays_itself _) (inr refl))

pub returns-clause-done : goal.returns-clause-done
returns-clause-done g c = report_of_completed c.args.fresh c.args.file.now (completed_rule c.in_ok-completed.completed) _ _ c.compute_completed.result c.in_ok-completed.ensures.completed c.compute_completed.ensures.done
