use Rattle.workbench_store.specs.Contexts.{Migrates}
use Rattle.workbench_store.proofs.RunLemmas.{text_written}
use Rattle.workbench_store.proofs.run.migrate_output.Goals as goal

pub returns-clause-done : goal.returns-clause-done
returns-clause-done g c = text_written (Migrates) (λ v. v.items) _ _ c.migrate.result c.output_of.result c.migrate.ensures.done c.output_of.ensures.text c.output_of.ensures.given c.output_of.ensures.refused
