-- What `compute` and `audit` answer on sound tables.
use Rattle.std.proofs.Common.{◌≡◌, ℕ, Bool, true, List, Ok, sym, ap, ◌∙◌}
use Rattle.result_keeper.specs.Kept.{Kept}
use Rattle.workbench_core.specs.Answers.{Answer, IsPrinted, of_computing, of_result}
use Rattle.workbench_core.specs.Compute.{IsComputed}
use Rattle.workbench_store.specs.declared.command.Command.TheVariants.{Compute, Audit}
use Rattle.workbench_store.specs.Audit.{audit_text, pages_of, row_count}
use Rattle.workbench_store.specs.Computing.{of_stored}
use Rattle.workbench_store.specs.Projects.{IsForProject}
use Rattle.workbench_store.specs.Sound.{IsSound}
use Rattle.workbench_store.specs.Steps.{IsStep}
use Rattle.store_laws.specs.SoundAnswers.{AnswersReport}
use Rattle.store_laws.proofs.Audited.{audited_true}
use Rattle.store_laws.proofs.SoundSteps.{not_old}
use Rattle.store_laws.proofs.StoredReports.{stored_anew, is_anew, project_anew, project_unused, told_anew}

pub report_anew : (name : List ℕ) (fresh : Bool) (a : Answer) (k next : Kept) → IsSound k →
    IsStep (Compute name fresh) k a next → AnswersReport name k a
report_anew name fresh a k next sound h =
    let d = h.done in
    record {
      told = of_stored d.stored;
      anew = stored_anew d.stored;
      of_definitions = project_anew fresh k sound.rows (not_old k sound) name d.stored d.answers_it;
      same = is_anew d.stored;
      printed = h.printed ∙ ap of_computing d.answer;
    }

pub report_fresh : (name : List ℕ) (a : Answer) (k next : Kept) → IsSound k →
    IsStep (Compute name true) k a next → IsPrinted of_computing (IsForProject IsComputed name k) a
report_fresh name a k next sound h =
    let d = h.done in
    let version = not_old k sound in
    let told = told_anew d.stored (project_unused k version name d.stored d.answers_it) in
    record {
      result = stored_anew d.stored;
      answers_it = project_anew true k sound.rows version name d.stored d.answers_it;
      printed = h.printed ∙ ap of_computing (d.answer ∙ told);
    }

pub audit_true : (a : Answer) (k next : Kept) → IsSound k → IsStep Audit k a next →
    a ≡ of_result (Ok (audit_text (row_count (pages_of k))))
audit_true a k next sound h = h.printed
    ∙ ap of_result (audited_true k sound.rows h.result next (not_old k sound) h.done)
