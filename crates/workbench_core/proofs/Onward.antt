-- From one answer for completed rules to another.
use Rattle.std.proofs.Common.{◌≡◌, inl, inr, ℕ, List, Option, None, Some, Result, Ok, Err}
use Rattle.degree_numbers.specs.declared.types.Types.{Types}
use Rattle.equations.specs.declared.equation.Equation.{Equation}
use Rattle.equation_file.specs.declared.refusal.FileRefusal.{FileRefusal}
use Rattle.equation_file.specs.File.{equation_of}
use Rattle.plain_trees.specs.Plain.{Plain}
use Rattle.plain_trees.specs.Text.{tree_text}
use Rattle.normal_rule.specs.declared.rule.Rule.{Rule}
use Rattle.workbench_core.specs.declared.refusal.Refusal.{Refusal}
use Rattle.workbench_core.specs.declared.refusal.Refusal.TheVariants.{ZeroDegree}
use Rattle.workbench_core.specs.Completed.{CompletedRule, IsUnlessZero, IsForCompletion, IsForEquation, IsForCompleted}
use Rattle.workbench_core.specs.Files.{IsForRead}
use Rattle.workbench_core.specs.Refusals.{of_file, of_stage}

module _ {T U : Type 0} (first : CompletedRule → Result T Refusal → Type 0) (second : CompletedRule → Result U Refusal → Type 0) (r : Result T Refusal) (s : Result U Refusal)
    (refusals : (e : Refusal) → r ≡ Err e → s ≡ Err e) (onward : (c : CompletedRule) → first c r → second c s) where
  past_zero : (ty : Types) (zero : Option Plain) (c : CompletedRule) → IsUnlessZero ty zero (first c) r → IsUnlessZero ty zero (second c) s
  past_zero ty None c h = onward c h
  past_zero ty (Some zero) c h = refusals (ZeroDegree (tree_text ty zero)) h

  completion_onward : (eq : Equation) (base : Rule) → IsForCompletion first eq base r → IsForCompletion second eq base s
  completion_onward eq base (inl h) = inl (record { stage = h.stage; what = h.what; fault = h.fault; answer = refusals (of_stage h.stage h.what) h.answer })
  completion_onward eq base (inr h) = inr (record {
    stage = h.stage;
    rule = h.rule;
    completion = h.completion;
    reached = h.reached;
    listable = h.listable;
    trees = h.trees;
    whole = h.whole;
    zero = h.zero;
    first_zero = h.first_zero;
    answer = past_zero eq.types h.zero (record { eq = eq; base = base; rule = h.rule; trees = h.trees }) h.answer;
  })

  equation_onward : (eq : Equation) → IsForEquation first eq r → IsForEquation second eq s
  equation_onward eq (inl h) = inl (h.0, h.1, completion_onward eq h.0 h.2)
  equation_onward eq (inr h) = inr (h.0, h.1, refusals h.0 h.2)

  read_onward : (read : Result Equation FileRefusal) → IsForRead (IsForEquation first) read r → IsForRead (IsForEquation second) read s
  read_onward (Ok eq) h = equation_onward eq h
  read_onward (Err f) h = refusals (of_file f) h

  pub file_onward : (file : List ℕ) → IsForCompleted first file r → IsForCompleted second file s
  file_onward file h = read_onward (equation_of file) h
