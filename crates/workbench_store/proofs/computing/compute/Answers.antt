use Rattle.std.proofs.Common.{subst}
use Rattle.std.proofs.lemmas.Result.{err_from_is_err_and}
use Rattle.workbench_core.specs.Compute.{computing}
use Rattle.workbench_store.specs.Computing.{StoresFile}
use Rattle.workbench_store.specs.Stepped.{IsDone}
use Rattle.workbench_store.proofs.ComputingLemmas.{no_report, old_store, report_of_file}
use Rattle.workbench_store.proofs.computing.compute.Goals as goal

pub returns-in_err-file-clause-done : goal.returns-in_err-file-clause-done
returns-in_err-file-clause-done g c =
    let p = err_from_is_err_and c.from_residual.result c.from_residual.ensures.1 in
    rw (p.1, p.2) (no_report c.args.name.now c.args.fresh _ _ _ c.in_err-file.ensures.done)

pub returns-then-version-eq1-clause-done : goal.returns-then-version-eq1-clause-done
returns-then-version-eq1-clause-done g c = old_store c.args.name.now c.args.fresh c.in_ok-file.file.items _ _ c.in_ok-file.ensures.done c.version.result c.if-version-eq1.true c.version.ensures.told

pub returns-clause-done : goal.returns-clause-done
returns-clause-done g c =
    let told = g.K.Keeper.told in
    let done = subst (λ f. IsDone (StoresFile c.args.fresh f) computing (told c.show.new.keeper) (told c.compute_file.new.keeper) c.compute_file.result) c.deref.ensures.value c.compute_file.ensures.done in
    report_of_file c.args.name.now c.args.fresh c.in_ok-file.file.items _ _ c.in_ok-file.ensures.done _ c.version.result c.compute_file.result c.if-version-eq1.false c.version.ensures.told done
