-- The rows of a rule, found by their kernels.
use Rattle.std.proofs.Common.{◌≡◌, ◌≢◌, ◌≤◌, ◌+◌, ◌==◌, ◌++◌, ℕ, zero, suc, List, [], ◌∷◌, length, map, drop, get_or, slice_index_or, Some, find, arith, refl, sym, ap, ◌∙◌, eq-eqb, ne_eqb}
use Rattle.std.specs.List.{range_with_len}
use Rattle.std.proofs.lemmas.Option.{slice_get-get_or}
use Rattle.equations.specs.declared.equation.Equation.{Equation}
use Rattle.equations.specs.declared.equation.Unknown.{Unknown}
use Rattle.equations.specs.Accepted.{IsEquation}
use Rattle.normal_rule.specs.declared.regularity.NotSubcritical.{NotSubcritical as Failure}
use Rattle.normal_rule.specs.declared.rule.Rule.{Rule}
use Rattle.normal_rule.specs.declared.rule.RuleRow.{RuleRow}
use Rattle.normal_rule.specs.Order.{empty_node}
use Rattle.normal_rule.specs.Regularity.{IsFirstFailure, HasRows}
use Rattle.normal_rule.specs.Text.{node_type_text}
use Rattle.workbench_core.specs.Base.{node_text_in}

-- the numbers of the kernels of rows
abbrev numbers : List RuleRow → List ℕ
numbers rows = map (λ row. row.kernel.0) rows

-- in rows whose kernels are numbered on from a, a later kernel has a number that is no smaller
from_first : (before : List RuleRow) (row : RuleRow) (after : List RuleRow) (a n : ℕ) → numbers (before ++ row ∷ after) ≡ range_with_len a n → a ≤ row.kernel.0
from_first [] row after a zero e = absurd (omega (arith, ap length e))
from_first [] row after a (suc n) e = omega (arith, ap (λ l. get_or l 0 0) e)
from_first (b ∷ before) row after a zero e = absurd (omega (arith, ap length e))
from_first (b ∷ before) row after a (suc n) e = omega (arith, from_first before row after (a + 1) n (ap (drop 1) e))

-- and a row is the first one of its kernel
pub find_row : (before : List RuleRow) (row : RuleRow) (after : List RuleRow) (a n : ℕ) → numbers (before ++ row ∷ after) ≡ range_with_len a n
    → find (λ r. r.kernel.0 == row.kernel.0) (before ++ row ∷ after) ≡ Some row
find_row [] row after a n e = rw (eq-eqb row.kernel.0 row.kernel.0 refl) refl
find_row (b ∷ before) row after a zero e = absurd (omega (arith, ap length e))
find_row (b ∷ before) row after a (suc n) e =
    let later = from_first before row after (a + 1) n (ap (drop 1) e) in
    let first = ap (λ l. get_or l 0 0) e in
    let other : b.kernel.0 ≢ row.kernel.0 = λ same. omega (arith, later, first, same) in
    rw (ne_eqb b.kernel.0 row.kernel.0 other) (find_row before row after (a + 1) n (ap (drop 1) e))

numbers_of_rows : (rows : List RuleRow) → map (λ k. k.0) (map (λ (row : RuleRow). row.kernel) rows) ≡ numbers rows
numbers_of_rows [] = refl
numbers_of_rows (row ∷ rows) = ap (λ l. row.kernel.0 ∷ l) (numbers_of_rows rows)

numbers_of_unknowns : (us : List Unknown) → map (λ k. k.0) (map (λ (u : Unknown). u.kernel) us) ≡ map (λ u. u.kernel.0) us
numbers_of_unknowns [] = refl
numbers_of_unknowns (u ∷ us) = ap (λ l. u.kernel.0 ∷ l) (numbers_of_unknowns us)

-- the text that is found by kernel and number is that of the node type where the inequality fails
pub failing_text : (eq : Equation) (rule : Rule) (f : Failure) → IsEquation eq → HasRows eq rule → (first : IsFirstFailure eq rule.rows f)
    → node_text_in eq.types rule.rows f.kernel.0 f.node ≡ node_type_text eq.types (slice_index_or first.row.nodes f.node empty_node)
failing_text eq rule f is_eq has first =
    let in_row = numbers_of_rows rule.rows in
    let of_unknowns = sym in_row ∙ ap (λ ks. map (λ k. k.0) ks) has.kernels ∙ numbers_of_unknowns eq.unknowns ∙ is_eq.kernels in
    let here = ap numbers (sym first.rows) ∙ of_unknowns in
    let found = find_row first.before first.row first.after _ _ here in
    let number : f.kernel.0 ≡ first.row.kernel.0 = ap (λ k. k.0) first.kernel in
    let at = slice_get-get_or first.row.nodes f.node empty_node first.inside in
    rw (number, first.rows, found, at) refl
