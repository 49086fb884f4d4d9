use Rattle.std.proofs.Common.{inl, inr, Ok, refl}
use Rattle.std.proofs.lemmas.Result.{err_from_is_err_and}
use Rattle.workbench_core.specs.Answers.{of_output, of_computing}
use Rattle.workbench_core.specs.Compute.{computing}
use Rattle.workbench_store.specs.Computing.{Computes}
use Rattle.workbench_store.proofs.RunLemmas.{refused_printed, happens_printed, whole_printed}
use Rattle.workbench_store.proofs.SteppedLemmas.{whole_after}
use Rattle.workbench_store.proofs.run.report_output.Goals as goal

pub returns-in_err-computed-clause-done : goal.returns-in_err-computed-clause-done
returns-in_err-computed-clause-done g c =
    let p = err_from_is_err_and c.from_residual.result c.from_residual.ensures.1 in
    rw (p.1, p.2) (refused_printed of_computing (Computes c.args.name.now c.args.fresh) _ _ _ refl c.in_err-computed.ensures.done)

pub returns-in_err-printed-clause-done : goal.returns-in_err-printed-clause-done
returns-in_err-printed-clause-done g c =
    let p = err_from_is_err_and c.from_residual-in_err-printed.result c.from_residual-in_err-printed.ensures.1 in
    let does = Computes c.args.name.now c.args.fresh in
    let told = g.K.Keeper.told in
    let whole = whole_printed of_computing does (told c.args.keeper.now) (told c.compute.new.keeper) (whole_after does (told c.args.keeper.now) (told c.compute.new.keeper) (Ok (computing c.in_ok-computed.computed)) c.in_ok-computed.ensures.done) in
    rw (p.1, p.2) (inl (inr refl, whole))

pub returns-clause-done : goal.returns-clause-done
returns-clause-done g c = happens_printed of_computing (Computes c.args.name.now c.args.fresh) _ _ (Ok (computing c.in_ok-computed.computed)) (of_output c.in_ok-printed.field-0) c.in_ok-printed.ensures c.in_ok-computed.ensures.done
