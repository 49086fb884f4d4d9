use Rattle.workbench_store.specs.Projects.{IsItself, IsForProject, Reads}
use Rattle.workbench_store.proofs.RunLemmas.{text_written}
use Rattle.workbench_store.proofs.run.show_output.Goals as goal

pub returns-clause-done : goal.returns-clause-done
returns-clause-done g c = text_written (Reads (IsForProject IsItself c.args.name.now)) (λ v. v.items) _ _ c.show.result c.output_of.result c.show.ensures.done c.output_of.ensures.text c.output_of.ensures.given c.output_of.ensures.refused
