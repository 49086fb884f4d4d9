-- What `sample` answers for a number.
--   has_constant v == the constant of the tree v is not 0
--   has_differential d == the differential d is not 0
--   constant_count vs == for how many of the trees vs the constant is not 0
--   line_count v == for how many unknowns the tree v has a counterterm
--   counterterm_count vs == how many counterterms the trees vs have together
--   summary_text number eq vs == `sample N unknowns M trees T constants C counterterms L`
--   IsSummary number c k text == text is that of the values of the listed trees with the constants
--       k
--   WritesSummary number c r == r is that text, or names the first quantity that is out of range
--   IsSampled number r == r is that for the completed rule of the sample file of this number, or
--       why there is none
use Rattle.std.specs.Prelude.{◌≡◌, ℕ, Bool, not, if◌then◌else◌, List, ◌++◌, length, codes, decimal, Result, Ok, Err}
use Rattle.std.specs.List.{count_by, sum_by}
use Rattle.equations.specs.declared.equation.Equation.{Equation}
use Rattle.plain_trees.specs.Plain.{Plain}
use Rattle.antipode_laws.specs.Weighed.{Weighed}
use Rattle.counterterm_report.specs.declared.values.DiffValue.{DiffValue}
use Rattle.counterterm_report.specs.declared.values.ReportValues.{ReportValues}
use Rattle.counterterm_report.specs.declared.values.TreeValues.{TreeValues}
use Rattle.counterterm_report.specs.Report.{is_zero}
use Rattle.sample_files.specs.Sample.{sample_text}
use Rattle.workbench_core.specs.declared.refusal.Refusal.{Refusal}
use Rattle.antipode_laws.specs.Antipode.{nothing}
use Rattle.workbench_core.specs.Completed.{CompletedRule, IsForCompleted}
use Rattle.workbench_core.specs.Compute.{HasValues, ForConstants, IsPastIn}

abbrev pub has_constant : TreeValues → Bool
has_constant v = not (is_zero v.constant)

abbrev pub has_differential : DiffValue → Bool
has_differential d = not (is_zero d.poly)

abbrev pub constant_count : List TreeValues → ℕ
constant_count vs = count_by has_constant vs

abbrev pub line_count : TreeValues → ℕ
line_count v = if has_constant v then count_by has_differential v.differentials else 0

abbrev pub counterterm_count : List TreeValues → ℕ
counterterm_count vs = sum_by line_count vs

abbrev pub summary_text : ℕ → Equation → List TreeValues → List ℕ
summary_text number eq vs =
    (codes "sample " ++ decimal number)
    ++ (codes " unknowns " ++ decimal (length eq.unknowns))
    ++ (codes " trees " ++ decimal (length vs))
    ++ (codes " constants " ++ decimal (constant_count vs))
    ++ (codes " counterterms " ++ decimal (counterterm_count vs))
    ++ codes "\n"

pub record IsSummary (number : ℕ) (c : CompletedRule) (k : Plain → Weighed) (text : List ℕ) :
    Type 0 where
  pub values : ReportValues
  pub has_values : HasValues c nothing k values
  pub is : text ≡ summary_text number c.eq values.trees

abbrev pub WritesSummary : ℕ → CompletedRule → Result (List ℕ) Refusal → Type 0
WritesSummary number c (Ok text) =
    ForConstants c.eq.types nothing (λ k. IsSummary number c k text)
WritesSummary number c (Err e) = ForConstants c.eq.types nothing
    (λ k. IsPastIn c.eq nothing c.trees k e)

abbrev pub IsSampled : ℕ → Result (List ℕ) Refusal → Type 0
IsSampled number r = IsForCompleted (WritesSummary number) (sample_text number) r
