use Rattle.std.proofs.Common.{Ok, refl, subst}
use Rattle.std.proofs.lemmas.Result.{err_from_is_err_and}
use Rattle.workbench_store.specs.declared.command.Command.TheVariants.{Add}
use Rattle.workbench_store.specs.Projects.{of_put, Adds}
use Rattle.workbench_store.specs.Stepped.{IsAnswered}
use Rattle.workbench_store.specs.Steps.{IsStep}
use Rattle.workbench_store.proofs.RunLemmas.{refused_printed, written}
use Rattle.workbench_store.proofs.run.add_output.Goals as goal

pub returns-in_err-put-clause-done : goal.returns-in_err-put-clause-done
returns-in_err-put-clause-done g c =
    let told = g.K.Keeper.told in
    let p = err_from_is_err_and c.from_residual.result c.from_residual.ensures.1 in
    subst (λ f. IsAnswered (IsStep (Add c.args.name.now f)) (told c.args.keeper.now) (told c.add.new.keeper) c.from_residual.result) c.bytes.ensures
    (rw (p.1, p.2) (refused_printed (of_put c.args.name.now) (Adds c.args.name.now c.bytes.result.now) _ _ _ refl c.in_err-put.ensures.done))

pub returns-clause-done : goal.returns-clause-done
returns-clause-done g c =
    let told = g.K.Keeper.told in
    subst (λ f. IsAnswered (IsStep (Add c.args.name.now f)) (told c.args.keeper.now) (told c.add.new.keeper) c.put_output.result) c.bytes.ensures
    (written (of_put c.args.name.now) (Adds c.args.name.now c.bytes.result.now) (λ put. put) _ _ (Ok c.in_ok-put.put) c.put_output.result (λ e. refl) c.in_ok-put.ensures.done c.put_output.ensures.given c.put_output.ensures.refused tt)
