use Rattle.workbench_store.specs.Projects.{Reads, GivesNames}
use Rattle.workbench_store.proofs.RunLemmas.{text_written}
use Rattle.workbench_store.proofs.run.names_output.Goals as goal

pub returns-clause-done : goal.returns-clause-done
returns-clause-done g c = text_written (Reads GivesNames) (λ v. v.items) _ _ c.names.result c.output_of.result c.names.ensures.done c.output_of.ensures.text c.output_of.ensures.given c.output_of.ensures.refused
