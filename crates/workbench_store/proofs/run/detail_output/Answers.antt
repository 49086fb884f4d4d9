use Rattle.std.proofs.Common.{subst}
use Rattle.workbench_core.specs.Detail.{IsDetailOf}
use Rattle.workbench_store.specs.declared.command.Command.TheVariants.{Detail}
use Rattle.workbench_store.specs.Projects.{IsForProject, Reads}
use Rattle.workbench_store.specs.Stepped.{IsAnswered}
use Rattle.workbench_store.specs.Steps.{IsStep}
use Rattle.workbench_store.proofs.RunLemmas.{text_written}
use Rattle.workbench_store.proofs.run.detail_output.Goals as goal

pub returns-clause-done : goal.returns-clause-done
returns-clause-done g c =
    let told = g.K.Keeper.told in
    subst (λ t. IsAnswered (IsStep (Detail c.args.name.now t)) (told c.args.keeper.now) (told c.detail.new.keeper) c.output_of.result) c.bytes.ensures
    (text_written (Reads (IsForProject (λ file. IsDetailOf file c.bytes.result.now) c.args.name.now)) (λ v. v.items) _ _ c.detail.result c.output_of.result c.detail.ensures.done c.output_of.ensures.text c.output_of.ensures.given c.output_of.ensures.refused)
