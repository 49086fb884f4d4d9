-- A file has at most one answer of `trees`.
use Rattle.std.proofs.Common.{◌≡◌, ◌≢◌, ◌≤◌, ℕ, List, Option, Some, None, Result, Ok, Err, inl, inr, refl, sym, ap, ◌∙◌, subst, Ordering, Less, Equal, Greater}
use Rattle.std.specs.Ordering.{ordering_reverse}
use Rattle.degree_numbers.specs.declared.types.Types.{Types}
use Rattle.equations.specs.declared.equation.Equation.{Equation}
use Rattle.equations.specs.Accepted.{IsEquation}
use Rattle.ordered_lists.proofs.Insertion.{strictly_sorted_unique}
use Rattle.plain_trees.specs.Plain.{Plain, tree_order}
use Rattle.plain_trees.proofs.OrderLaws.{tree_order_total, tree_exact}
use Rattle.normal_rule.specs.declared.rule.Rule.{Rule}
use Rattle.normal_rule.specs.Rule.{node_count}
use Rattle.conforming_trees.specs.Listed.{IsWholeList, IsFirstZero, listing_order}
use Rattle.conforming_trees.proofs.Orders.{listing_order_total}
use Rattle.tree_listing.proofs.Places.{listing_exact}
use Rattle.rule_stages.specs.Stages.{IsNextStage, IsCompletion}
use Rattle.rule_completion.specs.declared.refusal.StageFault.{StageFault}
use Rattle.rule_completion.specs.Reached.{IsListable, IsReached, IsStageFault}
use Rattle.workbench_core.specs.declared.refusal.Refusal.{Refusal}
use Rattle.workbench_core.specs.Refusals.{of_stage}
use Rattle.workbench_core.specs.Completed.{CompletedRule, IsStageRefused, IsUnlessZero, IsCompleted, IsForCompletion, IsForEquation, IsForCompleted}
use Rattle.workbench_core.specs.Trees.{ListsTrees, IsTreesOf}
use Rattle.answer_laws.proofs.Bases.{one_for_base}
use Rattle.answer_laws.proofs.OfFiles.{one_for_file}
use Rattle.answer_laws.proofs.SmallStages.{small_stage}
use Rattle.answer_laws.proofs.Texts.{tree_list_one}

-- the laws of the completion that are needed
pub record CompletionLaws : Type 0 where
  pub one : (eq : Equation) (base rule other : Rule) (i j : ℕ) → IsEquation eq →
      IsCompletion eq base i rule → IsCompletion eq base j other → (i ≡ j) × (rule ≡ other)
  pub fault : (eq : Equation) (base : Rule) (i j : ℕ) (f g : StageFault) → IsEquation eq →
      IsStageFault eq base i f → IsStageFault eq base j g → (i ≡ j) × (f ≡ g)
  pub no_fault : (eq : Equation) (base rule : Rule) (i j : ℕ) (f : StageFault) → IsEquation eq →
      IsReached eq base i rule → IsNextStage eq rule rule → IsListable eq rule →
      node_count rule ≤ 2000 → IsStageFault eq base j f → ⊥

whole_list_one : (eq : Equation) (rule : Rule) (ts us : List Plain) → IsWholeList eq rule ts → IsWholeList eq rule us → ts ≡ us
whole_list_one eq rule ts us h k =
    strictly_sorted_unique (listing_order eq.types) (listing_order_total eq.types) (listing_exact eq.types) ts us h.ascending k.ascending (λ t m. k.whole t (h.listed t m)) (λ t m. h.whole t (k.listed t m))

neither_greater : (s t : Plain) (o : Ordering) → tree_order s t ≡ o → tree_order s t ≢ Greater → tree_order t s ≢ Greater → s ≡ t
neither_greater s t Less e h k = absurd (k (tree_order_total.antisymm t s ∙ ap ordering_reverse e))
neither_greater s t Equal e h k = tree_exact s t e
neither_greater s t Greater e h k = absurd (h e)

first_zero_one : (eq : Equation) (rule : Rule) (y z : Option Plain) → IsFirstZero eq rule y → IsFirstZero eq rule z → y ≡ z
first_zero_one eq rule None None h k = refl
first_zero_one eq rule None (Some t) h k = absurd (h t k.0)
first_zero_one eq rule (Some s) None h k = absurd (k s h.0)
first_zero_one eq rule (Some s) (Some t) h k = ap Some (neither_greater s t (tree_order s t) refl (h.1 t k.0) (k.1 s h.0))

lists_one : (c : CompletedRule) (r s : Result (List ℕ) Refusal) → IsEquation c.eq → IsWholeList c.eq c.rule c.trees → ListsTrees c r → ListsTrees c s → r ≡ s
lists_one c r s equation whole h k = h.2 ∙ ap Ok (tree_list_one c.eq.types equation.types c.trees h.0 k.0 h.1 k.1) ∙ sym k.2

module _ {T : Type 0} (laws : CompletionLaws) (answers : CompletedRule → Result T Refusal → Type 0)
    (one : (c : CompletedRule) (r s : Result T Refusal) → IsEquation c.eq → IsWholeList c.eq c.rule c.trees → answers c r → answers c s → r ≡ s) where
  unless_zero_one : (ty : Types) (zero : Option Plain) (c : CompletedRule) (r s : Result T Refusal) →
      IsEquation c.eq → IsWholeList c.eq c.rule c.trees → IsUnlessZero ty zero (answers c) r →
      IsUnlessZero ty zero (answers c) s → r ≡ s
  unless_zero_one ty None c r s equation whole h k = one c r s equation whole h k
  unless_zero_one ty (Some zero) c r s equation whole h k = h ∙ sym k

  module _ (eq : Equation) (equation : IsEquation eq) (base : Rule) where
    abbrev with_trees : Rule → List Plain → CompletedRule
    with_trees rule ts = record { eq = eq; base = base; rule = rule; trees = ts }

    stage_refused_one : (r s : Result T Refusal) → IsStageRefused eq base r → IsStageRefused eq base s → r ≡ s
    stage_refused_one r s h k =
        let same = laws.fault eq base h.stage k.stage h.what k.what equation h.fault k.fault in
        h.answer ∙ ap (λ (j : ℕ). Err (of_stage j h.what)) same.0 ∙ ap (λ (f : StageFault). Err (of_stage k.stage f)) same.1 ∙ sym k.answer

    completed_one : (r s : Result T Refusal) → IsCompleted answers eq base r → IsCompleted answers eq base s → r ≡ s
    completed_one r s h k =
        let same : h.rule ≡ k.rule = (laws.one eq base h.rule k.rule h.stage k.stage equation h.completion k.completion).1 in
        let trees : h.trees ≡ k.trees = whole_list_one eq k.rule h.trees k.trees (subst (λ (rule : Rule). IsWholeList eq rule h.trees) same h.whole) k.whole in
        let zeros : h.zero ≡ k.zero = first_zero_one eq k.rule h.zero k.zero (subst (λ (rule : Rule). IsFirstZero eq rule h.zero) same h.first_zero) k.first_zero in
        let of_rule = subst (λ (rule : Rule). IsUnlessZero eq.types h.zero (answers (with_trees rule h.trees)) r) same h.answer in
        let of_trees = subst (λ (ts : List Plain). IsUnlessZero eq.types h.zero (answers (with_trees k.rule ts)) r) trees of_rule in
        let answer = subst (λ (zero : Option Plain). IsUnlessZero eq.types zero (answers (with_trees k.rule k.trees)) r) zeros of_trees in
        unless_zero_one eq.types k.zero (with_trees k.rule k.trees) r s equation k.whole answer k.answer

    -- a completion that is reached is not refused
    not_refused : (r s : Result T Refusal) → node_count base ≤ 2000 → IsCompleted answers eq base r → IsStageRefused eq base s → ⊥
    not_refused r s few h k =
        laws.no_fault eq base h.rule h.stage k.stage k.what equation h.reached h.completion.equals_next h.listable (small_stage eq equation base h.rule h.stage few h.reached) k.fault

    for_completion_one : (r s : Result T Refusal) → node_count base ≤ 2000 → IsForCompletion answers eq base r → IsForCompletion answers eq base s → r ≡ s
    for_completion_one r s few (inl h) (inl k) = stage_refused_one r s h k
    for_completion_one r s few (inl h) (inr k) = absurd (not_refused s r few k h)
    for_completion_one r s few (inr h) (inl k) = absurd (not_refused r s few h k)
    for_completion_one r s few (inr h) (inr k) = completed_one r s h k

  for_equation_one : (eq : Equation) (r s : Result T Refusal) → IsEquation eq → IsForEquation answers eq r → IsForEquation answers eq s → r ≡ s
  for_equation_one eq r s equation = one_for_base eq equation (IsForCompletion answers eq) (λ rule a b base. for_completion_one eq equation rule a b base.small) r s

  pub for_completed_one : (file : List ℕ) (r s : Result T Refusal) → IsForCompleted answers file r → IsForCompleted answers file s → r ≡ s
  for_completed_one = one_for_file (IsForEquation answers) for_equation_one

pub trees_one : CompletionLaws → (file : List ℕ) (r s : Result (List ℕ) Refusal) → IsTreesOf file r → IsTreesOf file s → r ≡ s
trees_one laws = for_completed_one laws ListsTrees lists_one
