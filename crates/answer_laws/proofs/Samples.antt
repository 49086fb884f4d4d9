-- A number has at most one answer of `sample`.
use Rattle.std.proofs.Common.{◌≡◌, ℕ, Bool, not, cond, if◌then◌else◌, List, ◌++◌, length, codes, decimal, Result, Ok, Err, sym, ap, ◌∙◌}
use Rattle.std.specs.List.{count_by}
use Rattle.equations.specs.declared.equation.Equation.{Equation}
use Rattle.equations.specs.Accepted.{IsEquation}
use Rattle.conforming_trees.specs.Listed.{IsWholeList}
use Rattle.counterterm_report.specs.declared.values.TreeValues.{TreeValues}
use Rattle.sample_files.specs.Sample.{sample_text}
use Rattle.workbench_core.specs.declared.refusal.Refusal.{Refusal}
use Rattle.workbench_core.specs.Completed.{CompletedRule}
use Rattle.workbench_core.specs.Sample.{has_constant, has_differential, constant_count, line_count, counterterm_count, summary_text, WritesSummary, IsSampled}
use Rattle.answer_laws.proofs.Completions.{CompletionLaws, for_completed_one}
use Rattle.answer_laws.proofs.Reports.{values_are_alike, in_range_or_past, past_one}
use Rattle.answer_laws.proofs.SameValues.{IsAlike, AllAlike, zero_one, length_one, differing_one, summed_one}

line_count_one : (v w : TreeValues) → IsAlike v w → line_count v ≡ line_count w
line_count_one v w h =
    let differentials : count_by has_differential v.differentials ≡ count_by has_differential w.differentials =
    differing_one (λ d. cond (has_differential d) 1 0) (λ d e same. ap (λ (b : Bool). cond (not b) 1 0) (zero_one d.poly e.poly same)) v.differentials w.differentials h.differentials in
    ap (λ (b : Bool). if not b then count_by has_differential v.differentials else 0) (zero_one v.constant w.constant h.constant)
    ∙ ap (λ (n : ℕ). if has_constant w then n else 0) differentials

abbrev text_of : ℕ → Equation → ℕ → ℕ → ℕ → List ℕ
text_of number eq trees constants counterterms =
    (codes "sample " ++ decimal number)
    ++ (codes " unknowns " ++ decimal (length eq.unknowns))
    ++ (codes " trees " ++ decimal trees)
    ++ (codes " constants " ++ decimal constants)
    ++ (codes " counterterms " ++ decimal counterterms)
    ++ codes "\n"

summary_one : (number : ℕ) (eq : Equation) (vs ws : List TreeValues) → AllAlike vs ws → summary_text number eq vs ≡ summary_text number eq ws
summary_one number eq vs ws h =
    let constants : constant_count vs ≡ constant_count ws = summed_one (λ v. cond (has_constant v) 1 0) (λ v w alike. ap (λ (b : Bool). cond (not b) 1 0) (zero_one v.constant w.constant alike.constant)) vs ws h in
    let counterterms : counterterm_count vs ≡ counterterm_count ws = summed_one line_count line_count_one vs ws h in
    ap (λ (n : ℕ). text_of number eq n (constant_count vs) (counterterm_count vs)) (length_one vs ws h)
    ∙ ap (λ (n : ℕ). text_of number eq (length ws) n (counterterm_count vs)) constants
    ∙ ap (λ (n : ℕ). text_of number eq (length ws) (constant_count ws) n) counterterms

writes_one : (number : ℕ) (c : CompletedRule) (r s : Result (List ℕ) Refusal) → IsEquation c.eq →
    IsWholeList c.eq c.rule c.trees → WritesSummary number c r → WritesSummary number c s → r ≡ s
writes_one number c (Ok x) (Ok y) equation whole h k =
    let a = h.2 in
    let b = k.2 in
    let alike = values_are_alike c whole h.0 k.0 a.values b.values h.1 k.1 a.has_values b.has_values in
    ap Ok (a.is ∙ summary_one number c.eq a.values.trees b.values.trees alike ∙ sym b.is)
writes_one number c (Ok x) (Err f) equation whole h k = absurd (in_range_or_past c whole h.0 k.0 h.2.values f h.1 k.1 h.2.has_values k.2)
writes_one number c (Err e) (Ok y) equation whole h k = absurd (in_range_or_past c whole k.0 h.0 k.2.values e k.1 h.1 k.2.has_values h.2)
writes_one number c (Err e) (Err f) equation whole h k = ap Err (past_one c whole h.0 k.0 e f h.1 k.1 h.2 k.2)

pub sampled_one : CompletionLaws → (number : ℕ) (r s : Result (List ℕ) Refusal) → IsSampled number r → IsSampled number s → r ≡ s
sampled_one laws number r s = for_completed_one laws (WritesSummary number) (writes_one number) (sample_text number) r s
