use Rattle.std.proofs.Common.{◌≡◌, ◌⊎◌, IfOk, IfErr, subst}
use Rattle.workbench_core.specs.Detail.{IsDetailOf}
use Rattle.workbench_core.specs.Answers.{of_output, of_refusal, of_result, IsPrinted}
use Rattle.workbench_core.specs.declared.refusal.Refusal.TheVariants.{Memory}
use Rattle.workbench_core.proofs.AnswerLemmas.{given, refused, no_fault}
use Rattle.workbench_core.proofs.answer.detail_output.Goals as goal

pub returns-clause-given : goal.returns-clause-given
returns-clause-given c =
    subst (λ w. IfOk c.output_of.result (λ o. IsPrinted of_result (IsDetailOf c.args.file.now w) (of_output o))) c.bytes_of.ensures
    (given (λ v. v.items) (IsDetailOf c.args.file.now c.bytes_of.result.now) c.detail_of.result c.output_of.result c.output_of.ensures.text c.output_of.ensures.given c.detail_of.ensures.text)

pub returns-clause-refused : goal.returns-clause-refused
returns-clause-refused c =
    subst (λ w. IfErr c.output_of.result (λ e. (e ≡ Memory) ⊎ IsPrinted of_result (IsDetailOf c.args.file.now w) (of_refusal e))) c.bytes_of.ensures
    (refused (λ v. v.items) (IsDetailOf c.args.file.now c.bytes_of.result.now) c.detail_of.result c.output_of.result c.output_of.ensures.refused c.detail_of.ensures.refused)

pub returns-clause-no_fault : goal.returns-clause-no_fault
returns-clause-no_fault c = no_fault c.detail_of.result c.output_of.result c.output_of.ensures.refused c.detail_of.ensures.no_fault
