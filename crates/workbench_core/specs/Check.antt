-- What the check of a file answers.
--   IsAccepted eq rule r == r is the check text of the rule with its gap
--   IsVerdict eq r == r is that for the rule with which eq begins, or the refusal of its normal
--       rule
--   IsChecked file r == r is the verdict on the equation that the file writes down, or the refusal
--       of a file that writes down none
use Rattle.std.specs.Prelude.{◌≡◌, ℕ, ℤ, List, Result, Ok}
use Rattle.equations.specs.declared.equation.Equation.{Equation}
use Rattle.normal_rule.specs.declared.rule.Rule.{Rule}
use Rattle.normal_rule.specs.Regularity.{IsGap}
use Rattle.workbench_core.specs.declared.refusal.Refusal.{Refusal}
use Rattle.workbench_core.specs.Base.{IsForBase}
use Rattle.workbench_core.specs.CheckText.{IsCheckText}
use Rattle.workbench_core.specs.Files.{IsForFile}

pub record IsAccepted (eq : Equation) (rule : Rule) (r : Result (List ℕ) Refusal) : Type 0 where
  pub gap : ℤ
  pub is_gap : IsGap eq rule gap
  pub text : List ℕ
  pub is_text : IsCheckText eq rule gap text
  pub answer : r ≡ Ok text

abbrev pub IsVerdict : Equation → Result (List ℕ) Refusal → Type 0
IsVerdict eq r = IsForBase (IsAccepted eq) eq r

abbrev pub IsChecked : List ℕ → Result (List ℕ) Refusal → Type 0
IsChecked file r = IsForFile IsVerdict file r
