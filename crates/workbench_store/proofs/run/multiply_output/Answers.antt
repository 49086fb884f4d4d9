use Rattle.std.proofs.Common.{subst}
use Rattle.workbench_core.specs.Characters.{IsMultiplyOf}
use Rattle.workbench_store.specs.declared.command.Command.TheVariants.{Multiply}
use Rattle.workbench_store.specs.Projects.{IsForProject, Reads}
use Rattle.workbench_store.specs.Stepped.{IsAnswered}
use Rattle.workbench_store.specs.Steps.{IsStep}
use Rattle.workbench_store.proofs.RunLemmas.{text_written}
use Rattle.workbench_store.proofs.run.multiply_output.Goals as goal

pub returns-clause-done : goal.returns-clause-done
returns-clause-done g c =
    let told = g.K.Keeper.told in
    let old = told c.args.keeper.now in
    let new = told c.multiply.new.keeper in
    let name = c.args.name.now in
    let does = Reads (IsForProject (λ file. IsMultiplyOf file c.bytes.result.now c.bytes-2.result.now c.bytes-3.result.now) name) in
    let written = text_written does (λ v. v.items) old new c.multiply.result c.output_of.result c.multiply.ensures.done c.output_of.ensures.text c.output_of.ensures.given c.output_of.ensures.refused in
    let of_tree = subst (λ t. IsAnswered (IsStep (Multiply name t c.bytes-2.result.now c.bytes-3.result.now)) old new c.output_of.result) c.bytes.ensures written in
    let of_first = subst (λ t. IsAnswered (IsStep (Multiply name c.args.tree.now t c.bytes-3.result.now)) old new c.output_of.result) c.bytes-2.ensures of_tree in
    subst (λ t. IsAnswered (IsStep (Multiply name c.args.tree.now c.args.first.now t)) old new c.output_of.result) c.bytes-3.ensures of_first
