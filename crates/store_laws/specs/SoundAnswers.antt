-- What commands answer on sound tables.
--   IsReportAnew r s == r is the report s, where nothing was held, as it is told where some values
--       are reused: the text is the same, and each tree is counted once; or r is the refusal s
--   AnswersReport name k a == a is printed for such a report of the project, by the definitions
--       alone: the rows of k play no part in its text
use Rattle.std.specs.Prelude.{◌≡◌, ◌+◌, ℕ, List, Result, Ok, Err}
use Rattle.result_keeper.specs.Kept.{Kept}
use Rattle.workbench_core.specs.declared.refusal.Refusal.{Refusal}
use Rattle.workbench_core.specs.Answers.{Answer, of_computing}
use Rattle.workbench_core.specs.Compute.{Computing, IsComputed}
use Rattle.workbench_store.specs.Projects.{IsForProject}

abbrev pub IsReportAnew : Result Computing Refusal → Result Computing Refusal → Type 0
IsReportAnew (Ok g) (Ok h) = (g.report ≡ h.report) × (g.reused + g.computed ≡ h.computed)
IsReportAnew (Ok g) (Err f) = ⊥
IsReportAnew (Err e) (Ok h) = ⊥
IsReportAnew (Err e) (Err f) = e ≡ f

pub record AnswersReport (name : List ℕ) (k : Kept) (a : Answer) : Type 0 where
  pub told : Result Computing Refusal
  pub anew : Result Computing Refusal
  pub of_definitions : IsForProject IsComputed name k anew
  pub same : IsReportAnew told anew
  pub printed : a ≡ of_computing told
