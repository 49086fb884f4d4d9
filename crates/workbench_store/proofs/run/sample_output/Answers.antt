use Rattle.workbench_core.specs.Sample.{IsSampled}
use Rattle.workbench_store.specs.Projects.{Reads}
use Rattle.workbench_store.proofs.RunLemmas.{text_written, asked_of_none}
use Rattle.workbench_store.proofs.run.sample_output.Goals as goal

pub returns-clause-done : goal.returns-clause-done
returns-clause-done c = λ told.
    let answers = IsSampled c.args.number in
    text_written (Reads (λ _. answers)) (λ v. v.items) told told c.sample.result c.output_of.result (asked_of_none answers (λ v. v.items) told c.sample.result c.sample.ensures.text c.sample.ensures.refused)
    c.output_of.ensures.text c.output_of.ensures.given c.output_of.ensures.refused
