use Rattle.std.proofs.Common.{subst}
use Rattle.workbench_core.specs.Characters.{IsActOf}
use Rattle.workbench_store.specs.declared.command.Command.TheVariants.{Act}
use Rattle.workbench_store.specs.Projects.{IsForProject, Reads}
use Rattle.workbench_store.specs.Stepped.{IsAnswered}
use Rattle.workbench_store.specs.Steps.{IsStep}
use Rattle.workbench_store.proofs.RunLemmas.{text_written}
use Rattle.workbench_store.proofs.run.act_output.Goals as goal

pub returns-clause-done : goal.returns-clause-done
returns-clause-done g c =
    let told = g.K.Keeper.told in
    let old = told c.args.keeper.now in
    let new = told c.act.new.keeper in
    let name = c.args.name.now in
    let recentre = c.args.recentre in
    let does = Reads (IsForProject (λ file. IsActOf file c.bytes.result.now c.bytes-2.result.now recentre) name) in
    let written = text_written does (λ v. v.items) old new c.act.result c.output_of.result c.act.ensures.done c.output_of.ensures.text c.output_of.ensures.given c.output_of.ensures.refused in
    let of_tree = subst (λ t. IsAnswered (IsStep (Act name t c.bytes-2.result.now recentre)) old new c.output_of.result) c.bytes.ensures written in
    subst (λ t. IsAnswered (IsStep (Act name c.args.tree.now t recentre)) old new c.output_of.result) c.bytes-2.ensures of_tree
