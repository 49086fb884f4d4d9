-- A file has at most one answer of `check`.
use Rattle.std.proofs.Common.{◌≡◌, ℕ, ℤ, ◌≤ℤ◌, List, Result, Ok, sym, ap, ◌∙◌, subst, arith}
use Rattle.std.proofs.lemmas.Int.{ints}
use Rattle.equations.specs.declared.equation.Equation.{Equation}
use Rattle.equations.specs.Accepted.{IsEquation}
use Rattle.normal_rule.specs.declared.rule.Rule.{Rule}
use Rattle.normal_rule.specs.Regularity.{IsGap}
use Rattle.workbench_core.specs.declared.refusal.Refusal.{Refusal}
use Rattle.workbench_core.specs.Check.{IsAccepted, IsVerdict, IsChecked}
use Rattle.workbench_core.specs.CheckText.{IsCheckText}
use Rattle.answer_laws.proofs.Bases.{one_for_base}
use Rattle.answer_laws.proofs.OfFiles.{one_for_file}
use Rattle.answer_laws.proofs.Texts.{check_text_one}

both_ways : (a b : ℤ) → a ≤ℤ b → b ≤ℤ a → a ≡ b
both_ways a b h k = omega (arith, ints, h, k)

gap_one : (eq : Equation) (rule : Rule) (gap other : ℤ) → IsGap eq rule gap → IsGap eq rule other → gap ≡ other
gap_one eq rule gap other h k =
    both_ways gap other (subst (λ (z : ℤ). gap ≤ℤ z) (sym k.is) (h.least k.row k.node k.row_of_rule k.node_of_row)) (subst (λ (z : ℤ). other ≤ℤ z) (sym h.is) (k.least h.row h.node h.row_of_rule h.node_of_row))

accepted_one : (eq : Equation) (rule : Rule) (r s : Result (List ℕ) Refusal) → IsEquation eq → IsAccepted eq rule r → IsAccepted eq rule s → r ≡ s
accepted_one eq rule r s equation h k =
    let gap : h.gap ≡ k.gap = gap_one eq rule h.gap k.gap h.is_gap k.is_gap in
    let text : h.text ≡ k.text = check_text_one eq equation.types rule k.gap h.text k.text (subst (λ (z : ℤ). IsCheckText eq rule z h.text) gap h.is_text) k.is_text in
    h.answer ∙ ap Ok text ∙ sym k.answer

verdict_one : (eq : Equation) (r s : Result (List ℕ) Refusal) → IsEquation eq → IsVerdict eq r → IsVerdict eq s → r ≡ s
verdict_one eq r s equation = one_for_base eq equation (IsAccepted eq) (λ rule a b base. accepted_one eq rule a b equation) r s

pub check_one : (file : List ℕ) (r s : Result (List ℕ) Refusal) → IsChecked file r → IsChecked file s → r ≡ s
check_one = one_for_file IsVerdict verdict_one
