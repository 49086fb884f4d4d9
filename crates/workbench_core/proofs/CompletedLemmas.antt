-- Completed rules, and what commands give for them.
use Rattle.std.proofs.Common.{◌≡◌, ◌⊎◌, inl, inr, ℕ, List, Option, None, Some, Result, Ok, Err, IfOk, refl, sym, ap, subst}
use Rattle.std.specs.Option.{option_map}
use Rattle.degree_numbers.specs.declared.types.Types.{Types}
use Rattle.equations.specs.declared.equation.Equation.{Equation}
use Rattle.equation_file.specs.declared.refusal.FileRefusal.{FileRefusal}
use Rattle.equation_file.specs.File.{equation_of}
use Rattle.plain_trees.specs.Plain.{Plain}
use Rattle.plain_trees.specs.Text.{tree_text}
use Rattle.tree_pool.specs.Content.{Content, tree_at}
use Rattle.tree_pool.specs.declared.node.TreeId.{TreeId}
use Rattle.normal_rule.specs.declared.rule.Rule.{Rule}
use Rattle.conforming_trees.specs.Listed.{IsWholeList, IsFirstZero, HasTooManyTrees, HasTooLargeTree}
use Rattle.rule_stages.specs.Stages.{IsCompletion}
use Rattle.rule_steps.specs.Steps.{trees_of}
use Rattle.rule_completion.specs.declared.refusal.StageFault.{StageFault}
use Rattle.rule_completion.specs.declared.refusal.StageRefusal.{StageRefusal}
use Rattle.rule_completion.specs.declared.refusal.StageRefusal.TheVariants as refused
use Rattle.rule_completion.specs.Reached.{IsReached, IsStageFault}
use Rattle.workbench_core.specs.declared.completed.Completed.{Completed}
use Rattle.workbench_core.specs.declared.refusal.Refusal.{Refusal}
use Rattle.workbench_core.specs.declared.refusal.Refusal.TheVariants.{Memory, ZeroDegree}
use Rattle.workbench_core.specs.Completed.{CompletedRule, completed_rule, IsUnlessZero, IsForCompletion, IsForEquation, IsForCompleted, IsItself, IsCompletedFile}
use Rattle.workbench_core.specs.Files.{IsForRead}
use Rattle.workbench_core.specs.Refusals.{of_file, of_stage, of_completion}
use Rattle.workbench_core.specs.TreeList.{IsTreeList}
use Rattle.workbench_core.specs.Trees.{ListsTrees, IsTreesOf}

-- what the completion of a rule gives for its answer
pub record Reached (eq : Equation) (base rule : Rule) (j : ℕ) (ts : List Plain) (zero : Option Plain) : Type 0 where
  pub completion : IsCompletion eq base j rule
  pub reached : IsReached eq base j rule
  pub few : HasTooManyTrees eq rule → ⊥
  pub fit : HasTooLargeTree eq rule → ⊥
  pub whole : IsWholeList eq rule ts
  pub first_zero : IsFirstZero eq rule zero

module _ {T : Type 0} (answers : CompletedRule → Result T Refusal → Type 0) where
  pub for_completion : (eq : Equation) (base rule : Rule) (j : ℕ) (ts : List Plain) (zero : Option Plain) (r : Result T Refusal) → Reached eq base rule j ts zero
      → IsUnlessZero eq.types zero (answers (record { eq = eq; base = base; rule = rule; trees = ts })) r → IsForCompletion answers eq base r
  for_completion eq base rule j ts zero r h is = inr (record {
    stage = j;
    rule = rule;
    completion = h.completion;
    reached = h.reached;
    listable = record { few = h.few; fit = h.fit };
    trees = ts;
    whole = h.whole;
    zero = zero;
    first_zero = h.first_zero;
    answer = is;
  })

-- a stage is too large, or there was no memory
pub refused_completion : (eq : Equation) (base : Rule) (f : StageRefusal) (e : Refusal) → e ≡ of_completion f
    → ((j : ℕ) (what : StageFault) → f ≡ refused.Stage j what → IsStageFault eq base j what) → (e ≡ Memory) ⊎ IsForCompletion IsItself eq base (Err e)
refused_completion eq base (refused.Stage j what) e is fault = inr (inl (record { stage = j; what = what; fault = fault j what refl; answer = ap Err is }))
refused_completion eq base refused.Memory e is fault = inl is

-- there is no tree of degree 0
pub completed_without_zero : (eq : Equation) (base rule : Rule) (j : ℕ) (ts : List Plain) (zero : Option Plain) → Reached eq base rule j ts zero → zero ≡ None
    → IsForCompletion IsItself eq base (Ok (record { eq = eq; base = base; rule = rule; trees = ts }))
completed_without_zero eq base rule j ts None h none = for_completion IsItself eq base rule j ts None (Ok (record { eq = eq; base = base; rule = rule; trees = ts })) h refl
completed_without_zero eq base rule j ts (Some zero) h none = cc

-- there is one, which is named
pub completed_with_zero : (eq : Equation) (base rule : Rule) (j : ℕ) (ts : List Plain) (c : Content) (zero : Option TreeId) (e : Refusal)
    → Reached eq base rule j ts (option_map (λ (id : TreeId). tree_at c id.0) zero) → c.types ≡ eq.types
    → (e ≡ Memory) ⊎ ((id : TreeId) × (zero ≡ Some id) × (e ≡ ZeroDegree (tree_text c.types (tree_at c id.0)))) → (e ≡ Memory) ⊎ IsForCompletion IsItself eq base (Err e)
completed_with_zero eq base rule j ts c zero e h types (inl memory) = inl memory
completed_with_zero eq base rule j ts c None e h types (inr named) = let none = named.1 in cc
completed_with_zero eq base rule j ts c (Some id) e h types (inr named) =
    let same : id ≡ named.0 = (let some = named.1 in cc) in
    let text : e ≡ ZeroDegree (tree_text eq.types (tree_at c id.0)) =
    subst (λ (ty : Types). e ≡ ZeroDegree (tree_text ty (tree_at c id.0))) types (subst (λ (i : TreeId). e ≡ ZeroDegree (tree_text c.types (tree_at c i.0))) (sym same) named.2) in
    inr (for_completion IsItself eq base rule j ts (Some (tree_at c id.0)) (Err e) h (ap Err text))

same_error : {T : Type 0} (r : Result T Refusal) (e f : Refusal) → r ≡ Err e → r ≡ Err f → e ≡ f
same_error r e f h k = cc

-- a command goes on with the completed rule, or gives the refusal
module _ {T : Type 0} (answers : CompletedRule → Result T Refusal → Type 0) where
  module _ (c : CompletedRule) (r : Result T Refusal) (given : answers c r) where
    past_zero : (ty : Types) (zero : Option Plain) (d : CompletedRule) → IsUnlessZero ty zero (IsItself d) (Ok c) → IsUnlessZero ty zero (answers d) r
    past_zero ty None d h = let same : c ≡ d = cc in subst (λ x. answers x r) same given
    past_zero ty (Some zero) d h = cc

    completion_goes_on : (eq : Equation) (base : Rule) → IsForCompletion IsItself eq base (Ok c) → IsForCompletion answers eq base r
    completion_goes_on eq base (inl refused) = let is = refused.answer in cc
    completion_goes_on eq base (inr h) = inr (record {
      stage = h.stage;
      rule = h.rule;
      completion = h.completion;
      reached = h.reached;
      listable = h.listable;
      trees = h.trees;
      whole = h.whole;
      zero = h.zero;
      first_zero = h.first_zero;
      answer = past_zero eq.types h.zero (record { eq = eq; base = base; rule = h.rule; trees = h.trees }) h.answer;
    })

    equation_goes_on : (eq : Equation) → IsForEquation IsItself eq (Ok c) → IsForEquation answers eq r
    equation_goes_on eq (inl h) = inl (h.0, h.1, completion_goes_on eq h.0 h.2)
    equation_goes_on eq (inr h) = let is = h.2 in cc

    read_goes_on : (read : Result Equation FileRefusal) → IsForRead (IsForEquation IsItself) read (Ok c) → IsForRead (IsForEquation answers) read r
    read_goes_on (Ok eq) h = equation_goes_on eq h
    read_goes_on (Err f) h = cc

    pub file_goes_on : (file : List ℕ) → IsCompletedFile file (Ok c) → IsForCompleted answers file r
    file_goes_on file h = read_goes_on (equation_of file) h

  module _ (e : Refusal) where
    zero_refused : (ty : Types) (zero : Option Plain) (d : CompletedRule) → IsUnlessZero ty zero (IsItself d) (Err e) → IsUnlessZero ty zero (answers d) (Err e)
    zero_refused ty None d h = cc
    zero_refused ty (Some zero) d h = ap Err (same_error (Err e) e (ZeroDegree (tree_text ty zero)) refl h)

    completion_refused : (eq : Equation) (base : Rule) → IsForCompletion IsItself eq base (Err e) → IsForCompletion answers eq base (Err e)
    completion_refused eq base (inl h) = inl (record { stage = h.stage; what = h.what; fault = h.fault; answer = ap Err (same_error (Err e) e (of_stage h.stage h.what) refl h.answer) })
    completion_refused eq base (inr h) = inr (record {
      stage = h.stage;
      rule = h.rule;
      completion = h.completion;
      reached = h.reached;
      listable = h.listable;
      trees = h.trees;
      whole = h.whole;
      zero = h.zero;
      first_zero = h.first_zero;
      answer = zero_refused eq.types h.zero (record { eq = eq; base = base; rule = h.rule; trees = h.trees }) h.answer;
    })

    equation_refused : (eq : Equation) → IsForEquation IsItself eq (Err e) → IsForEquation answers eq (Err e)
    equation_refused eq (inl h) = inl (h.0, h.1, completion_refused eq h.0 h.2)
    equation_refused eq (inr h) = inr (h.0, h.1, ap Err (same_error (Err e) e h.0 refl h.2))

    read_refused : (read : Result Equation FileRefusal) → IsForRead (IsForEquation IsItself) read (Err e) → IsForRead (IsForEquation answers) read (Err e)
    read_refused (Ok eq) h = equation_refused eq h
    read_refused (Err f) h = ap Err (same_error (Err e) e (of_file f) refl h)

    pub file_refused : (file : List ℕ) → IsCompletedFile file (Err e) → IsForCompleted answers file (Err e)
    file_refused file h = read_refused (equation_of file) h

  pub file_refused_or_memory : (e : Refusal) (file : List ℕ) → (e ≡ Memory) ⊎ IsCompletedFile file (Err e) → (e ≡ Memory) ⊎ IsForCompleted answers file (Err e)
  file_refused_or_memory e file (inl memory) = inl memory
  file_refused_or_memory e file (inr h) = inr (file_refused e file h)

-- the tree list of a completed rule
pub list_goes_on : {T E : Type 0} (file : List ℕ) (c : Completed) (result : Result T E) (view : T → List ℕ) → IsCompletedFile file (Ok (completed_rule c)) → c.pool.types ≡ c.eq.types
    → IfOk result (λ v. IsTreeList c.pool.types (trees_of c.pool c.trees) (view v)) → IfOk result (λ v. IsTreesOf file (Ok (view v)))
list_goes_on file c (Ok v) view completed types list =
    file_goes_on ListsTrees (completed_rule c) (Ok (view v)) (view v, subst (λ (ty : Types). IsTreeList ty (trees_of c.pool c.trees) (view v)) types list, refl) file completed
list_goes_on file c (Err e) view completed types list = list
