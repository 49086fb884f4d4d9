-- What a command gives for the completed rule of a file.
--   CompletedRule == an equation, the rule with which it begins, the completed rule, and the listed
--       trees of that
--   completed_rule c == that of a file that is completed, whose trees are those of its pool
--   HasFacts c == the trees of c are trees of its pool, which has the types of the equation; of the
--       completed rule there are not too many, and none is too large; and the rule is closed under
--       cutting
--   IsStageRefused eq base r == r names the first stage of the completion of base that is too
--       large, and what is too large there
--   IsUnlessZero ty zero answers r == r is one of the answers where there is no tree `zero`; else
--       it names that tree
--   IsCompleted answers eq base r == the completion of base is reached with no stage too large; r
--       is one of the answers for it and all its listed trees, or names its first tree of degree 0
--   IsForCompletion answers eq base r == one of these two
--   IsForEquation answers eq r == r is that for the rule with which eq begins, or the refusal of
--       its normal rule
--   IsForCompleted answers file r == r is that for the equation that the file writes down, or the
--       refusal of a file that writes down none
--   IsItself c r == r is the completed rule c
--   IsCompletedFile file r == r is the completed rule itself, or one of the refusals
use Rattle.std.specs.Prelude.{◌≡◌, ◌<◌, ◌⊎◌, ℕ, List, length, Option, None, Some, Result, Ok, Err}
use Rattle.degree_numbers.specs.declared.types.Types.{Types}
use Rattle.std.specs.List.{All}
use Rattle.equations.specs.declared.equation.Equation.{Equation}
use Rattle.equations.specs.Accepted.{IsEquation}
use Rattle.plain_trees.specs.Plain.{Plain}
use Rattle.plain_trees.specs.Text.{tree_text}
use Rattle.normal_rule.specs.declared.rule.Rule.{Rule}
use Rattle.conforming_trees.specs.Conforming.{IsRule}
use Rattle.conforming_trees.specs.Listed.{IsListed, IsWholeList, IsFirstZero, HasTooManyTrees, HasTooLargeTree}
use Rattle.rule_stages.specs.Closure.{IsClosedUnderCutting}
use Rattle.rule_stages.specs.Stages.{IsCompletion}
use Rattle.rule_steps.specs.Steps.{trees_of}
use Rattle.rule_completion.specs.declared.refusal.StageFault.{StageFault}
use Rattle.rule_completion.specs.Reached.{IsReached, IsListable, IsStageFault}
use Rattle.workbench_core.specs.declared.completed.Completed.{Completed}
use Rattle.workbench_core.specs.declared.refusal.Refusal.{Refusal}
use Rattle.workbench_core.specs.declared.refusal.Refusal.TheVariants.{ZeroDegree}
use Rattle.workbench_core.specs.Base.{IsBase, IsForBase}
use Rattle.workbench_core.specs.Files.{IsForFile}
use Rattle.workbench_core.specs.Refusals.{of_stage}

pub record CompletedRule : Type 0 where
  pub eq : Equation
  pub base : Rule
  pub rule : Rule
  pub trees : List Plain

abbrev pub completed_rule : Completed → CompletedRule
completed_rule c =
    record { eq = c.eq; base = c.base; rule = c.rule; trees = trees_of c.pool c.trees }

pub record HasFacts (c : Completed) : Type 0 where
  pub equation : IsEquation c.eq
  pub base : IsBase c.eq c.base
  pub rule : IsRule c.eq c.rule
  pub types : c.pool.types ≡ c.eq.types
  pub known : All (λ id. id.0 < length c.pool.trees) c.trees
  pub whole : IsWholeList c.eq c.rule (trees_of c.pool c.trees)
  pub few : HasTooManyTrees c.eq c.rule → ⊥
  pub fit : HasTooLargeTree c.eq c.rule → ⊥
  pub closed : (t : Plain) → IsListed c.eq c.rule t → IsClosedUnderCutting c.eq c.rule t

pub record IsStageRefused {T : Type 0} (eq : Equation) (base : Rule)
    (r : Result T Refusal) : Type 0 where
  pub stage : ℕ
  pub what : StageFault
  pub fault : IsStageFault eq base stage what
  pub answer : r ≡ Err (of_stage stage what)

abbrev pub IsUnlessZero : {T : Type 0} → Types → Option Plain → (Result T Refusal → Type 0) →
    Result T Refusal → Type 0
IsUnlessZero ty None answers r = answers r
IsUnlessZero ty (Some zero) answers r = r ≡ Err (ZeroDegree (tree_text ty zero))

pub record IsCompleted {T : Type 0} (answers : CompletedRule → Result T Refusal → Type 0)
    (eq : Equation) (base : Rule) (r : Result T Refusal) : Type 0 where
  pub stage : ℕ
  pub rule : Rule
  pub completion : IsCompletion eq base stage rule
  pub reached : IsReached eq base stage rule
  pub listable : IsListable eq rule
  pub trees : List Plain
  pub whole : IsWholeList eq rule trees
  pub zero : Option Plain
  pub first_zero : IsFirstZero eq rule zero
  pub answer : IsUnlessZero eq.types zero
      (answers (record { eq = eq; base = base; rule = rule; trees = trees })) r

abbrev pub IsForCompletion : {T : Type 0} → (CompletedRule → Result T Refusal → Type 0) → Equation →
    Rule → Result T Refusal → Type 0
IsForCompletion answers eq base r = IsStageRefused eq base r ⊎ IsCompleted answers eq base r

abbrev pub IsForEquation : {T : Type 0} → (CompletedRule → Result T Refusal → Type 0) → Equation →
    Result T Refusal → Type 0
IsForEquation answers eq r = IsForBase (IsForCompletion answers eq) eq r

abbrev pub IsForCompleted : {T : Type 0} → (CompletedRule → Result T Refusal → Type 0) → List ℕ →
    Result T Refusal → Type 0
IsForCompleted answers file r = IsForFile (IsForEquation answers) file r

abbrev pub IsItself : CompletedRule → Result CompletedRule Refusal → Type 0
IsItself c r = r ≡ Ok c

abbrev pub IsCompletedFile : List ℕ → Result CompletedRule Refusal → Type 0
IsCompletedFile file r = IsForCompleted IsItself file r
