use Rattle.workbench_core.specs.Trees.{IsTreesOf}
use Rattle.workbench_store.specs.Projects.{IsForProject, Reads}
use Rattle.workbench_store.proofs.RunLemmas.{text_written}
use Rattle.workbench_store.proofs.run.trees_output.Goals as goal

pub returns-clause-done : goal.returns-clause-done
returns-clause-done g c = text_written (Reads (IsForProject IsTreesOf c.args.name.now)) (λ v. v.items) _ _ c.trees.result c.output_of.result c.trees.ensures.done c.output_of.ensures.text c.output_of.ensures.given c.output_of.ensures.refused
