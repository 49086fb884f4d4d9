-- What is answered for completed rules, and what follows from it for files and projects.
use Rattle.std.proofs.Common.{◌≡◌, ℕ, ◌⊎◌, inl, inr, List, Option, None, Some, Result, Ok, Err, refl, sym, ap, ◌∙◌, subst}
use Rattle.std.specs.FinMap.{get}
use Rattle.degree_numbers.specs.declared.types.Types.{Types}
use Rattle.equations.specs.declared.equation.Equation.{Equation}
use Rattle.equations.specs.Accepted.{IsEquation}
use Rattle.equation_file.specs.declared.refusal.FileRefusal.{FileRefusal}
use Rattle.equation_file.specs.File.{equation_of}
use Rattle.equation_file.proofs.AcceptedEquation.{answer_is}
use Rattle.normal_rule.specs.declared.rule.Rule.{Rule}
use Rattle.conforming_trees.specs.Listed.{IsWholeList}
use Rattle.plain_trees.specs.Plain.{Plain}
use Rattle.rule_completion.specs.Reached.{IsListable}
use Rattle.result_keeper.specs.Kept.{Kept}
use Rattle.workbench_core.specs.declared.refusal.Refusal.{Refusal}
use Rattle.workbench_core.specs.Completed.{CompletedRule, IsUnlessZero, IsCompleted, IsForCompletion, IsForEquation, IsForCompleted}
use Rattle.workbench_core.specs.Files.{IsForRead}
use Rattle.workbench_store.specs.Projects.{IsForKept, IsForProject}

pub record HasFacts (c : CompletedRule) : Type 0 where
  pub equation : IsEquation c.eq
  pub whole : IsWholeList c.eq c.rule c.trees
  pub listable : IsListable c.eq c.rule

-- what holds of each refusal and of each answer for a completed rule
module _ {T : Type 0} (answers : CompletedRule → Result T Refusal → Type 0)
    (P : Result T Refusal → Type 0) (refused : (e : Refusal) → P (Err e))
    (here : (c : CompletedRule) (r : Result T Refusal) → HasFacts c → answers c r → P r) where
  refused_as : (r : Result T Refusal) (e : Refusal) → r ≡ Err e → P r
  refused_as r e is = subst P (sym is) (refused e)

  unless_zero : (ty : Types) (zero : Option Plain) (c : CompletedRule) (r : Result T Refusal) →
      HasFacts c → IsUnlessZero ty zero (answers c) r → P r
  unless_zero ty None c r facts h = here c r facts h
  unless_zero ty (Some zero) c r facts h = refused_as r _ h

  for_completion : (eq : Equation) (base : Rule) (r : Result T Refusal) → IsEquation eq →
      IsForCompletion answers eq base r → P r
  for_completion eq base r equation (inl h) = refused_as r _ h.answer
  for_completion eq base r equation (inr h) = unless_zero eq.types h.zero
      (record { eq = eq; base = base; rule = h.rule; trees = h.trees }) r
      (record { equation = equation; whole = h.whole; listable = h.listable }) h.answer

  for_equation : (eq : Equation) (r : Result T Refusal) → IsEquation eq →
      IsForEquation answers eq r → P r
  for_equation eq r equation (inl h) = for_completion eq h.0 r equation h.2
  for_equation eq r equation (inr h) = refused_as r h.0 h.2

  for_read : (file : List ℕ) (read : Result Equation FileRefusal) (r : Result T Refusal) →
      read ≡ equation_of file → IsForRead (IsForEquation answers) read r → P r
  for_read file (Ok eq) r same h = for_equation eq r (answer_is file (Ok eq) (inr same)) h
  for_read file (Err e) r same h = refused_as r _ h

  pub of_completed : (file : List ℕ) (r : Result T Refusal) → IsForCompleted answers file r → P r
  of_completed file r h = for_read file (equation_of file) r refl h

-- other answers for each completed rule
module _ {T U : Type 0} (answers : CompletedRule → Result T Refusal → Type 0)
    (others : CompletedRule → Result U Refusal → Type 0)
    (f : Result T Refusal → Result U Refusal) (errs : (e : Refusal) → f (Err e) ≡ Err e)
    (here : (c : CompletedRule) (r : Result T Refusal) → HasFacts c → answers c r → others c (f r))
  where
    refused_so : (r : Result T Refusal) (e : Refusal) → r ≡ Err e → f r ≡ Err e
    refused_so r e is = ap f is ∙ errs e

    zero_so : (ty : Types) (zero : Option Plain) (c : CompletedRule) (r : Result T Refusal) →
        HasFacts c → IsUnlessZero ty zero (answers c) r → IsUnlessZero ty zero (others c) (f r)
    zero_so ty None c r facts h = here c r facts h
    zero_so ty (Some zero) c r facts h = refused_so r _ h

    completion_so : (eq : Equation) (base : Rule) (r : Result T Refusal) → IsEquation eq →
        IsForCompletion answers eq base r → IsForCompletion others eq base (f r)
    completion_so eq base r equation (inl h) = inl (record {
      stage = h.stage;
      what = h.what;
      fault = h.fault;
      answer = refused_so r _ h.answer;
    })
    completion_so eq base r equation (inr h) = inr (record {
      stage = h.stage;
      rule = h.rule;
      completion = h.completion;
      reached = h.reached;
      listable = h.listable;
      trees = h.trees;
      whole = h.whole;
      zero = h.zero;
      first_zero = h.first_zero;
      answer = zero_so eq.types h.zero
          (record { eq = eq; base = base; rule = h.rule; trees = h.trees }) r
          (record { equation = equation; whole = h.whole; listable = h.listable }) h.answer;
    })

    equation_so : (eq : Equation) (r : Result T Refusal) → IsEquation eq →
        IsForEquation answers eq r → IsForEquation others eq (f r)
    equation_so eq r equation (inl h) = inl (h.0, h.1, completion_so eq h.0 r equation h.2)
    equation_so eq r equation (inr h) = inr (h.0, h.1, refused_so r h.0 h.2)

    read_so : (file : List ℕ) (read : Result Equation FileRefusal) (r : Result T Refusal) →
        read ≡ equation_of file → IsForRead (IsForEquation answers) read r →
        IsForRead (IsForEquation others) read (f r)
    read_so file (Ok eq) r same h = equation_so eq r (answer_is file (Ok eq) (inr same)) h
    read_so file (Err e) r same h = refused_so r _ h

    pub completed_so : (file : List ℕ) (r : Result T Refusal) → IsForCompleted answers file r →
        IsForCompleted others file (f r)
    completed_so file r h = read_so file (equation_of file) r refl h

-- of the file of a project
module _ {T : Type 0} (answers : List ℕ → Result T Refusal → Type 0)
    (P : Result T Refusal → Type 0) (refused : (e : Refusal) → P (Err e))
    (here : (file : List ℕ) (r : Result T Refusal) → answers file r → P r) where
  of_kept : (name : List ℕ) (kept : Option (List ℕ)) (r : Result T Refusal) →
      IsForKept answers name kept r → P r
  of_kept name None r h = subst P (sym h) (refused _)
  of_kept name (Some file) r h = here file r h

  pub of_project : (name : List ℕ) (k : Kept) (r : Result T Refusal) →
      IsForProject answers name k r → P r
  of_project name k r h = of_kept name (get k.projects name) r h

module _ {T U : Type 0} (answers : List ℕ → Result T Refusal → Type 0)
    (others : List ℕ → Result U Refusal → Type 0) (f : Result T Refusal → Result U Refusal)
    (errs : (e : Refusal) → f (Err e) ≡ Err e)
    (here : (file : List ℕ) (r : Result T Refusal) → answers file r → others file (f r)) where
  kept_so : (name : List ℕ) (kept : Option (List ℕ)) (r : Result T Refusal) →
      IsForKept answers name kept r → IsForKept others name kept (f r)
  kept_so name None r h = ap f h ∙ errs _
  kept_so name (Some file) r h = here file r h

  pub project_so : (name : List ℕ) (k : Kept) (r : Result T Refusal) →
      IsForProject answers name k r → IsForProject others name k (f r)
  project_so name k r h = kept_so name (get k.projects name) r h
