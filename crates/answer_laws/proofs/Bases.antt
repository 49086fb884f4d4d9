-- An equation has at most one answer where the rule with which it begins has at most one; its
-- normal rule is refused in one way.
use Rattle.std.proofs.Common.{◌≡◌, ℕ, zero, suc, ◌<◌, ◌++◌, Bool, false, true≢false, List, [], ◌∷◌, length, get_or, Result, Err, inl, inr, refl, sym, ap, ◌∙◌, subst, arith}
use Rattle.std.specs.List.{prefix_len}
use Rattle.std.proofs.lemmas.List.Sums.{prefix_len_stops}
use Rattle.equations.specs.declared.equation.Equation.{Equation}
use Rattle.equations.specs.Accepted.{IsEquation}
use Rattle.ordered_lists.specs.Members.{IsIn}
use Rattle.ordered_lists.proofs.Members.{in_append_right}
use Rattle.normal_rule.specs.declared.regularity.NotSubcritical.{NotSubcritical as Failure}
use Rattle.normal_rule.specs.declared.rule.NodeType.{NodeType}
use Rattle.normal_rule.specs.declared.rule.Rule.{Rule}
use Rattle.normal_rule.specs.declared.rule.RuleRow.{RuleRow}
use Rattle.normal_rule.specs.Order.{empty_node}
use Rattle.normal_rule.specs.Regularity.{holds, HoldAll, IsSubcritical, IsFirstFailure}
use Rattle.normal_rule.specs.Rule.{node_count}
use Rattle.normal_rule.proofs.RuleLaws.{rule_unique}
use Rattle.workbench_core.specs.declared.refusal.Refusal.{Refusal}
use Rattle.workbench_core.specs.Base.{IsBase, IsNotSubcritical, IsRefusedRule, IsForBase}
use Rattle.workbench_core.specs.CheckText.{IsSideText}
use Rattle.answer_laws.proofs.Texts.{side_one}

module _ (eq : Equation) where
  -- a node type of the row for which the inequality doesn't hold
  abbrev Fails : RuleRow → Type 0
  Fails row = (n : NodeType) × IsIn n row.nodes × (holds eq row.kernel.0 n ≡ false)

  failure_fails : (rows : List RuleRow) (f : Failure) (h : IsFirstFailure eq rows f) → Fails h.row
  failure_fails rows f h =
      let test : NodeType → Bool = holds eq h.row.kernel.0 in
      let at : ℕ = prefix_len test h.row.nodes in
      let inside : at < length h.row.nodes = subst (λ (i : ℕ). i < length h.row.nodes) h.node h.inside in
      let n : NodeType = get_or h.row.nodes at empty_node in
      (n, in_list h.row.nodes at inside, prefix_len_stops test h.row.nodes empty_node inside)
    where
      in_list : (ns : List NodeType) (i : ℕ) → i < length ns → IsIn (get_or ns i empty_node) ns
      in_list [] i lt = absurd (omega arith)
      in_list (m ∷ ns) zero lt = inl refl
      in_list (m ∷ ns) (suc i) lt = inr (in_list ns i (omega arith))

  not_both : (rows : List RuleRow) (row : RuleRow) → HoldAll eq rows → IsIn row rows → Fails row → ⊥
  not_both rows row hold there fails = true≢false (sym (hold row fails.0 there fails.1) ∙ fails.2)

  -- the first row that fails
  one_row : (rows others after behind : List RuleRow) (row other : RuleRow) →
      rows ++ row ∷ after ≡ others ++ other ∷ behind → HoldAll eq rows → HoldAll eq others →
      Fails row → Fails other → row ≡ other
  one_row [] [] after behind row other same hold held fails failed = cc
  one_row [] (o ∷ others) after behind row other same hold held fails failed =
      let first : row ≡ o = cc in
      absurd (not_both (o ∷ others) row held (inl (sym first)) fails)
  one_row (r ∷ rows) [] after behind row other same hold held fails failed =
      let first : r ≡ other = cc in
      absurd (not_both (r ∷ rows) other hold (inl first) failed)
  one_row (r ∷ rows) (o ∷ others) after behind row other same hold held fails failed =
      let rest : rows ++ row ∷ after ≡ others ++ other ∷ behind = cc in
      one_row rows others after behind row other rest (λ x n i. hold x n (inr i)) (λ x n i. held x n (inr i)) fails failed

  module _ (equation : IsEquation eq) where
    not_subcritical_one : (rule : Rule) (e f : Refusal) → IsNotSubcritical eq rule e → IsNotSubcritical eq rule f → e ≡ f
    not_subcritical_one rule e f h k =
        let a = h.first in
        let b = k.first in
        let row : a.row ≡ b.row =
        one_row a.before b.before a.after b.after a.row b.row (sym a.rows ∙ b.rows) a.hold b.hold (failure_fails rule.rows h.failure a) (failure_fails rule.rows k.failure b) in
        let kernel : h.failure.kernel ≡ k.failure.kernel = a.kernel ∙ ap (λ (r : RuleRow). r.kernel) row ∙ sym b.kernel in
        let node : h.failure.node ≡ k.failure.node = a.node ∙ ap (λ (r : RuleRow). prefix_len (holds eq r.kernel.0) r.nodes) row ∙ sym b.node in
        let left_sides : h.failure.left ≡ k.failure.left = (let one = a.left in let two = b.left in cc) in
        let right_sides : h.failure.right ≡ k.failure.right = (let one = a.right in let two = b.right in cc) in
        let left : h.left ≡ k.left = side_one eq equation.types k.failure.left.a h.left k.left (subst (λ d. IsSideText eq d.a h.left) left_sides h.left_text) k.left_text in
        let right : h.right ≡ k.right = side_one eq equation.types k.failure.right.a h.right k.right (subst (λ d. IsSideText eq d.a h.right) right_sides h.right_text) k.right_text in
        let one = h.is in
        let two = k.is in
        cc

    refused_one : (e f : Refusal) → IsRefusedRule eq e → IsRefusedRule eq f → e ≡ f
    refused_one e f h k =
        let same : h.0 ≡ k.0 = rule_unique eq h.0 k.0 h.1 k.1 in
        let count : node_count h.0 ≡ node_count k.0 = ap node_count same in
        elim h.2 [
          | inl large ↦
              elim k.2 [
                | inl larger ↦ large.1 ∙ sym larger.1
                | inr small ↦ let many = large.0 in let few = small.0 in absurd (omega (arith, many, few, count))
              ]
          | inr small ↦
              elim k.2 [
                | inl large ↦ let many = large.0 in let few = small.0 in absurd (omega (arith, many, few, count))
                | inr smaller ↦ not_subcritical_one k.0 e f (subst (λ (rule : Rule). IsNotSubcritical eq rule e) same small.1) smaller.1
              ]
        ]

    not_refused : (rule : Rule) (e : Refusal) → IsBase eq rule → IsRefusedRule eq e → ⊥
    not_refused rule e base h =
        let same : h.0 ≡ rule = rule_unique eq h.0 rule h.1 base.normal in
        let count : node_count h.0 ≡ node_count rule = ap node_count same in
        elim h.2 [
          | inl large ↦ let many = large.0 in let few = base.small in omega (arith, many, few, count)
          | inr small ↦
              let first = small.1.first in
              let there = subst (IsIn first.row) (sym first.rows) (in_append_right first.row first.before (first.row ∷ first.after) (inl refl)) in
              not_both h.0.rows first.row (subst (IsSubcritical eq) (sym same) base.subcritical) there (failure_fails h.0.rows small.1.failure first)
        ]

    module _ {T : Type 0} (answers : Rule → Result T Refusal → Type 0) (one : (rule : Rule) (r s : Result T Refusal) → IsBase eq rule → answers rule r → answers rule s → r ≡ s) where
      pub one_for_base : (r s : Result T Refusal) → IsForBase answers eq r → IsForBase answers eq s → r ≡ s
      one_for_base r s h k =
          elim h [
            | inl a ↦
                elim k [
                  | inl b ↦
                      let same : a.0 ≡ b.0 = rule_unique eq a.0 b.0 a.1.normal b.1.normal in
                      one b.0 r s b.1 (subst (λ (rule : Rule). answers rule r) same a.2) b.2
                  | inr b ↦ absurd (not_refused a.0 b.0 a.1 b.1)
                ]
            | inr a ↦
                elim k [
                  | inl b ↦ absurd (not_refused b.0 a.0 b.1 a.1)
                  | inr b ↦ a.2 ∙ ap Err (refused_one a.0 b.0 a.1 b.1) ∙ sym b.2
                ]
          ]
