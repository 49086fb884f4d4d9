-- The rows of the next stage, one behind the other.
use Rattle.std.proofs.Common.{◌≡◌, ℕ, ◌+◌, ◌<◌, ◌≤◌, List, [], ◌∷◌, ◌++◌, length, map, take, get_or, refl, sym, ap, ◌∙◌, subst, arith, inl, inr}
use Rattle.std.specs.List.{range_with_len, take-map}
use Rattle.std.proofs.lemmas.List.{take_more, take_all, map-append}
use Rattle.std.proofs.lemmas.Simd.{map-map}
use Rattle.degree_numbers.specs.declared.types.TypeId.{TypeId}
use Rattle.degree_numbers.specs.Types.{noise_count, kernels}
use Rattle.equations.specs.declared.equation.Equation.{Equation}
use Rattle.equations.specs.Accepted.{IsEquation}
use Rattle.ordered_lists.specs.Members.{IsIn}
use Rattle.ordered_lists.proofs.Members.{from_append}
use Rattle.normal_rule.specs.declared.rule.NodeType.{NodeType}
use Rattle.normal_rule.specs.declared.rule.Rule.{Rule}
use Rattle.normal_rule.specs.declared.rule.RuleRow.{RuleRow}
use Rattle.normal_rule.specs.Rule.{nodes_in}
use Rattle.conforming_trees.specs.Conforming.{IsRule}
use Rattle.rule_stages.specs.Stages.{IsInNext, HasTooLargeNext}
use Rattle.rule_steps.specs.Sets.{IsSetOf}
use Rattle.rule_steps.specs.Steps.{IsNextRow, HasNextRows}
use Rattle.rule_steps.proofs.Rows.{numbers}
use Rattle.rule_steps.proofs.StepsLarge.{AreAscending, kernel_numbers, range_ascends, take_ascends, rows_too_large}

abbrev row_made : TypeId → List NodeType → RuleRow
row_made k ns = record { kernel = k; nodes = ns }

count_both : (rows others : List RuleRow) → nodes_in (rows ++ others) ≡ nodes_in rows + nodes_in others
count_both [] others = omega arith
count_both (row ∷ rows) others = omega (arith, count_both rows others)

pub count_more : (rows next : List RuleRow) (k : TypeId) (ns : List NodeType) → next ≡ rows ++ row_made k ns ∷ [] → nodes_in next ≡ nodes_in rows + length ns
count_more rows next k ns is = let both = count_both rows (row_made k ns ∷ []) in ap nodes_in is ∙ omega (arith, both)

abbrev number : TypeId → ℕ
number k = k.0

abbrev kernel_at : RuleRow → TypeId
kernel_at row = row.kernel

module _ (eq : Equation) (rule : Rule) where
  pub rows_none : HasNextRows eq rule (take 0 rule.rows) []
  rows_none = record { kernels = refl; next = λ row i. absurd i }

  pub rows_step : (i : ℕ) (row : RuleRow) (ns : List NodeType) (rows next : List RuleRow) →
      i < length rule.rows → row ≡ get_or rule.rows i row →
      HasNextRows eq rule (take i rule.rows) rows →
      IsSetOf (IsInNext eq rule row.kernel.0) ns → next ≡ rows ++ row_made row.kernel ns ∷ [] → HasNextRows eq rule (take (i + 1) rule.rows) next
  rows_step i row ns rows next lt is h set made =
      let one : take (i + 1) rule.rows ≡ take i rule.rows ++ row ∷ [] = take_more rule.rows i row lt ∙ ap (λ (x : RuleRow). take i rule.rows ++ x ∷ []) (sym is) in
      let last = row_made row.kernel ns in
      record {
        kernels = ap (map kernel_at) made ∙ map-append kernel_at rows (last ∷ []) ∙ ap (λ (l : List TypeId). l ++ row.kernel ∷ []) h.kernels ∙ sym (map-append kernel_at (take i rule.rows) (row ∷ [])) ∙ ap (map kernel_at) (sym one);
        next = λ r j.
            (elim (from_append r rows (last ∷ []) (subst (IsIn r) made j)) [
              | inl before ↦ h.next r before
              | inr end ↦ elim end [ inl e ↦ subst (IsNextRow eq rule) e set | inr none ↦ absurd none ]
            ]);
      }

  pub rows_end : (i : ℕ) (rows : List RuleRow) → length rule.rows ≤ i → HasNextRows eq rule (take i rule.rows) rows → HasNextRows eq rule rule.rows rows
  rows_end i rows end h = subst (λ (l : List RuleRow). HasNextRows eq rule l rows) (take_all i rule.rows end) h

  module _ (equation : IsEquation eq) (is_rule : IsRule eq rule) where
    rows_ascend : (i : ℕ) (rows : List RuleRow) → HasNextRows eq rule (take i rule.rows) rows → AreAscending (kernel_numbers rows)
    rows_ascend i rows h =
        let same : kernel_numbers rows ≡ kernel_numbers (take i rule.rows) = sym (map-map number kernel_at rows) ∙ ap (map number) h.kernels ∙ map-map number kernel_at (take i rule.rows) in
        let range = take_ascends i (range_with_len (noise_count eq.types) (length (kernels eq.types))) (range_ascends (noise_count eq.types) (length (kernels eq.types))) in
        subst AreAscending (sym (same ∙ sym (take-map (λ (r : RuleRow). r.kernel.0) i rule.rows) ∙ ap (take i) (numbers eq rule equation is_rule))) range

    pub rows_many : (i : ℕ) (row : RuleRow) (ns : List NodeType) (rows : List RuleRow) (count : ℕ) → i < length rule.rows → row ≡ get_or rule.rows i row → HasNextRows eq rule (take i rule.rows) rows →
        IsSetOf (IsInNext eq rule row.kernel.0) ns → count ≡ nodes_in rows → 2000 < count + length ns → HasTooLargeNext eq rule
    rows_many i row ns rows count lt is h set counted more =
        let next = rows ++ row_made row.kernel ns ∷ [] in
        let after = rows_step i row ns rows next lt is h set refl in
        let total = count_more rows next row.kernel ns refl in
        rows_too_large eq rule next (rows_ascend (i + 1) next after) after.next (omega (arith, total, counted, more))
