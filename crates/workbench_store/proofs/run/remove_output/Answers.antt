use Rattle.workbench_store.specs.Projects.{Removes}
use Rattle.workbench_store.proofs.RunLemmas.{text_written}
use Rattle.workbench_store.proofs.run.remove_output.Goals as goal

pub returns-clause-done : goal.returns-clause-done
returns-clause-done g c = text_written (Removes c.args.name.now) (λ v. v.items) _ _ c.remove.result c.output_of.result c.remove.ensures.done c.output_of.ensures.text c.output_of.ensures.given c.output_of.ensures.refused
