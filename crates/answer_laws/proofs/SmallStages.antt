-- A stage that is reached from a small rule has at most 2,000 node types.
use Rattle.std.proofs.Common.{◌≡◌, ℕ, zero, suc, ◌≤◌, ◌<◌, ◌⊎◌, List, length, inl, inr, refl, sym, subst, arith}
use Rattle.degree_numbers.specs.Types.{noise_count, kernels}
use Rattle.equations.specs.declared.equation.Equation.{Equation}
use Rattle.equations.specs.Accepted.{IsEquation}
use Rattle.ordered_lists.specs.Members.{IsIn}
use Rattle.normal_rule.specs.declared.rule.NodeType.{NodeType}
use Rattle.normal_rule.specs.declared.rule.Rule.{Rule}
use Rattle.normal_rule.specs.declared.rule.RuleRow.{RuleRow}
use Rattle.normal_rule.specs.Rule.{node_count}
use Rattle.conforming_trees.specs.Conforming.{EdgeLabel, labels, IsInKernelRow, IsRule}
use Rattle.rule_stages.specs.Stages.{IsNextStage, HasTooLargeNext}
use Rattle.rule_steps.proofs.Rows.{numbers, nodes_of_row, from_kernel_row}
use Rattle.rule_steps.proofs.StepsLarge.{AreAscending, range_ascends, rows_too_large}
use Rattle.rule_completion.specs.Reached.{IsReached}

at_most_or_more : (m n : ℕ) → (m ≤ n) ⊎ (n < m)
at_most_or_more zero n = inl (omega arith)
at_most_or_more (suc m) zero = inr (omega arith)
at_most_or_more (suc m) (suc n) = elim (at_most_or_more m n) [ inl le ↦ inl (omega (arith, le)) | inr gt ↦ inr (omega (arith, gt)) ]

module _ (eq : Equation) (equation : IsEquation eq) where
  -- each kernel has one row
  in_row : (rule : Rule) → IsRule eq rule → (row : RuleRow) → IsIn row rule.rows →
      (es : List EdgeLabel) → IsInKernelRow rule row.kernel.0 es →
      (n : NodeType) × IsIn n row.nodes × (labels n ≡ es)
  in_row rule is_rule row there es h =
      let n = from_kernel_row eq rule equation is_rule row.kernel.0 es h in
      (n.0, subst (IsIn n.0) (nodes_of_row eq rule equation is_rule row there) n.1, n.2)

  too_large_next : (rule next : Rule) → IsNextStage eq rule next → 2000 < node_count next → HasTooLargeNext eq rule
  too_large_next rule next h many =
      let ascending = subst AreAscending (sym (numbers eq next equation h.is_rule)) (range_ascends (noise_count eq.types) (length (kernels eq.types))) in
      rows_too_large eq rule next.rows ascending
      (λ row there. record {
        ascending = (h.is_rule.normal row there).ascending;
        all = λ es next_to. in_row next h.is_rule row there es (h.whole row.kernel.0 es next_to);
        only = λ n m. h.sound row.kernel.0 (labels n) (row, there, refl, (n, m, refl));
      })
      many

  small_next : (rule next : Rule) → IsNextStage eq rule next → (HasTooLargeNext eq rule → ⊥) → node_count next ≤ 2000
  small_next rule next h small =
      elim (at_most_or_more (node_count next) 2000) [ inl few ↦ few | inr many ↦ absurd (small (too_large_next rule next h many)) ]

  pub small_stage : (base rule : Rule) (j : ℕ) → node_count base ≤ 2000 → IsReached eq base j rule → node_count rule ≤ 2000
  small_stage base rule zero few h = subst (λ (r : Rule). node_count r ≤ 2000) (sym h.stage) few
  small_stage base rule (suc j) few h =
      let before = h.stage.0 in
      small_next before rule h.stage.2 (h.before j before (omega arith) h.stage.1).small
