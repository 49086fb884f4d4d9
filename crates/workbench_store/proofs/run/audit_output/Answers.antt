use Rattle.workbench_store.specs.Audit.{Audits}
use Rattle.workbench_store.proofs.RunLemmas.{text_written}
use Rattle.workbench_store.proofs.run.audit_output.Goals as goal

pub returns-clause-done : goal.returns-clause-done
returns-clause-done g c = text_written (Audits) (λ v. v.items) _ _ c.audit.result c.output_of.result c.audit.ensures.done c.output_of.ensures.text c.output_of.ensures.given c.output_of.ensures.refused
