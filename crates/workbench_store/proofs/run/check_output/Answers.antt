use Rattle.std.proofs.Common.{subst}
use Rattle.workbench_core.specs.Check.{IsChecked}
use Rattle.workbench_store.specs.declared.command.Command.TheVariants.{Check}
use Rattle.workbench_store.specs.Projects.{Reads}
use Rattle.workbench_store.specs.Stepped.{IsAnswered}
use Rattle.workbench_store.specs.Steps.{IsStep}
use Rattle.workbench_store.proofs.RunLemmas.{text_written, asked_of_none}
use Rattle.workbench_store.proofs.run.check_output.Goals as goal

pub returns-clause-done : goal.returns-clause-done
returns-clause-done c = λ told.
    let answers = IsChecked c.bytes.result.now in
    subst (λ f. IsAnswered (IsStep (Check f)) told told c.output_of.result) c.bytes.ensures
    (text_written (Reads (λ _. answers)) (λ v. v.items) told told c.check.result c.output_of.result (asked_of_none answers (λ v. v.items) told c.check.result c.check.ensures.text c.check.ensures.refused)
    c.output_of.ensures.text c.output_of.ensures.given c.output_of.ensures.refused)
