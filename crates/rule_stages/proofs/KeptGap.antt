-- The gap of a rule is that of each stage of its completion.
use Rattle.std.proofs.Common.{◌≡◌, ℕ, zero, suc, ℤ, pos, ◌≤ℤ◌, Bool, true, false, refl, sym, ap, ◌∙◌, subst, arith}
use Rattle.std.proofs.lemmas.Int.{ints}
use Rattle.degree_numbers.specs.Types.{type_degree}
use Rattle.equations.specs.declared.equation.Equation.{Equation}
use Rattle.ordered_lists.specs.Members.{IsIn}
use Rattle.normal_rule.specs.declared.rule.NodeType.{NodeType}
use Rattle.normal_rule.specs.declared.rule.Rule.{Rule}
use Rattle.normal_rule.specs.declared.rule.RuleRow.{RuleRow}
use Rattle.normal_rule.specs.Regularity.{regularity_of, holds, difference, IsSubcritical, IsGap}
use Rattle.conforming_trees.specs.Conforming.{labels, IsInKernelRow, IsRule}
use Rattle.rule_stages.specs.Stages.{IsNextStage, IsStage}
use Rattle.rule_stages.proofs.Next.{next_holds}
use Rattle.rule_stages.proofs.Regularities.{labels_regularity, node_regularity-labels, LeavesGap, next-leaves_gap}

member-in_row : (rule : Rule) (row : RuleRow) (n : NodeType) → IsIn row rule.rows → IsIn n row.nodes → IsInKernelRow rule row.kernel.0 (labels n)
member-in_row rule row n h k = (row, h, refl, (n, k, refl))

-- what a clause on all differences says of edge types
leaves : (eq : Equation) (rule : Rule) (g : ℤ) →
    ((row : RuleRow) (n : NodeType) → IsIn row rule.rows → IsIn n row.nodes → g ≤ℤ difference eq row.kernel.0 n) →
    LeavesGap eq rule g
leaves eq rule g least k es has =
    let row = has.0 in
    let n = has.3.0 in
    let low = least row n has.1 has.3.1 in
    let sum = node_regularity-labels eq n ∙ ap (labels_regularity eq) has.3.2 in
    let left = ap (regularity_of eq) has.2 in
    let right = ap (λ (i : ℕ). (type_degree eq.types i).a) has.2 in
    omega (arith, ints, low, sum, left, right)

difference-leaves : (eq : Equation) (rule : Rule) (g : ℤ) (row : RuleRow) (n : NodeType) →
    LeavesGap eq rule g → IsIn row rule.rows → IsIn n row.nodes → g ≤ℤ difference eq row.kernel.0 n
difference-leaves eq rule g row n gap h k =
    let low = gap row.kernel.0 (labels n) (member-in_row rule row n h k) in
    let sum = node_regularity-labels eq n in
    omega (arith, ints, low, sum)

holds-one : (eq : Equation) (k : ℕ) (n : NodeType) → holds eq k n ≡ true → pos 1 ≤ℤ difference eq k n
holds-one eq k n h = omega (arith, ints, h)

one-holds : (eq : Equation) (k : ℕ) (n : NodeType) → pos 1 ≤ℤ difference eq k n → holds eq k n ≡ true
one-holds eq k n h = go (holds eq k n) refl
  where
    go : (t : Bool) → holds eq k n ≡ t → t ≡ true
    go true q = refl
    go false q = absurd (omega (arith, ints, q, h))

pub next_subcritical : (eq : Equation) (rule next : Rule) → IsRule eq rule → IsSubcritical eq rule → IsNextStage eq rule next → IsSubcritical eq next
next_subcritical eq rule next is_rule sub h row n there member =
    let gap = leaves eq rule (pos 1) (λ r m a b. holds-one eq r.kernel.0 m (sub r m a b)) in
    let kept = next-leaves_gap eq rule next (pos 1) is_rule gap (omega (arith, ints)) h in
    one-holds eq row.kernel.0 n (difference-leaves eq next (pos 1) row n kept there member)

pub next_gap : (eq : Equation) (rule next : Rule) (g : ℤ) → IsRule eq rule → IsSubcritical eq rule →
    IsGap eq rule g → IsNextStage eq rule next → IsGap eq next g
next_gap eq rule next g is_rule sub gap h =
    let above : pos 1 ≤ℤ g = let one = holds-one eq gap.row.kernel.0 gap.node (sub gap.row gap.node gap.row_of_rule gap.node_of_row) in let is = gap.is in omega (arith, ints, one, is) in
    let kept = next-leaves_gap eq rule next g is_rule (leaves eq rule g gap.least) (omega (arith, ints, above)) h in
    let place = next_holds eq rule next gap.row.kernel.0 (labels gap.node) h (member-in_row rule gap.row gap.node gap.row_of_rule gap.node_of_row) in
    let sum = node_regularity-labels eq gap.node ∙ ap (labels_regularity eq) (sym place.3.2) ∙ sym (node_regularity-labels eq place.3.0) in
    let left = ap (regularity_of eq) place.2 in
    let right = ap (λ (i : ℕ). (type_degree eq.types i).a) place.2 in
    let is = gap.is in
    record {
      row = place.0;
      node = place.3.0;
      row_of_rule = place.1;
      node_of_row = place.3.1;
      is = omega (arith, ints, is, sum, left, right);
      least = λ r n a b. difference-leaves eq next g r n kept a b;
    }

pub stage_rule : (eq : Equation) (base rule : Rule) (j : ℕ) → IsRule eq base → IsStage eq base j rule → IsRule eq rule
stage_rule eq base rule zero h s = subst (IsRule eq) (sym s) h
stage_rule eq base rule (suc j) h s = s.2.is_rule

pub stage_subcritical : (eq : Equation) (base rule : Rule) (j : ℕ) → IsRule eq base → IsSubcritical eq base → IsStage eq base j rule → IsSubcritical eq rule
stage_subcritical eq base rule zero h sub s = subst (IsSubcritical eq) (sym s) sub
stage_subcritical eq base rule (suc j) h sub s = next_subcritical eq s.0 rule (stage_rule eq base s.0 j h s.1) (stage_subcritical eq base s.0 j h sub s.1) s.2

pub stage_gap : (eq : Equation) (base rule : Rule) (j : ℕ) (g : ℤ) → IsRule eq base →
    IsSubcritical eq base → IsGap eq base g → IsStage eq base j rule → IsGap eq rule g
stage_gap eq base rule zero g h sub gap s = subst (λ (r : Rule). IsGap eq r g) (sym s) gap
stage_gap eq base rule (suc j) g h sub gap s = next_gap eq s.0 rule g (stage_rule eq base s.0 j h s.1) (stage_subcritical eq base s.0 j h sub s.1) (stage_gap eq base s.0 j g h sub gap s.1) s.2
