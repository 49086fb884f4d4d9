-- The low degrees are at most the degrees of the trees.
use Rattle.std.proofs.Common.{◌≡◌, ℕ, ◌≤◌, List, [], ◌∷◌, ◌++◌, refl, sym, ap, ◌∙◌, subst, inl, inr, arith}
use Rattle.std.specs.Ordering.{is_gt}
use Rattle.std.proofs.lemmas.Int.{ints}
use Rattle.degree_numbers.specs.declared.degree.Degree.{Degree}
use Rattle.degree_numbers.specs.declared.types.Types.{Types}
use Rattle.degree_numbers.specs.Degree.{degree_plus, degree_zero}
use Rattle.degree_numbers.specs.Types.{type_degree}
use Rattle.equations.specs.declared.equation.Equation.{Equation}
use Rattle.plain_trees.specs.Plain.{Plain, bare, graft, edge_count_of, decoration_sum_of}
use Rattle.plain_trees.specs.Degree.{degree_of, node_degree_of, edge_degree_of, derivative_degree_of}
use Rattle.normal_rule.specs.declared.rule.Rule.{Rule}
use Rattle.conforming_trees.specs.Conforming.{EdgeLabel, edge_label_order, labels, put_label, node_type_of, IsAllowedAbove, ConformsAbove}
use Rattle.conforming_trees.specs.Budgets.{IsNotAbove, low_at, edge_low, lows_of, AreLow, IsUsable}
use Rattle.conforming_trees.proofs.Degrees.{from_parts, not_above_self, not_above_trans, plus_not_above, plus_associates, plus_exchanges, plus_passes, plus_zero, zero_plus}
use Rattle.conforming_trees.proofs.NodeTypes.{if_cons, node_usable}

pub lows-append : (ty : Types) (lows : List Degree) (xs ys : List EdgeLabel) →
    lows_of ty lows (xs ++ ys) ≡ degree_plus (lows_of ty lows xs) (lows_of ty lows ys)
lows-append ty lows [] ys = sym (zero_plus (lows_of ty lows ys))
lows-append ty lows (e ∷ xs) ys = ap (degree_plus (edge_low ty lows e)) (lows-append ty lows xs ys) ∙ sym (plus_associates (edge_low ty lows e) (lows_of ty lows xs) (lows_of ty lows ys))

pub lows-put_label : (ty : Types) (lows : List Degree) (e : EdgeLabel) (es : List EdgeLabel) →
    lows_of ty lows (put_label e es) ≡ degree_plus (edge_low ty lows e) (lows_of ty lows es)
lows-put_label ty lows e [] = refl
lows-put_label ty lows e (f ∷ fs) =
    if_cons (is_gt (edge_label_order e f)) e f fs (put_label e fs) (λ gs. lows_of ty lows gs ≡ degree_plus (edge_low ty lows e) (degree_plus (edge_low ty lows f) (lows_of ty lows fs)))
    (ap (degree_plus (edge_low ty lows f)) (lows-put_label ty lows e fs) ∙ plus_exchanges (edge_low ty lows f) (edge_low ty lows e) (lows_of ty lows fs)) refl

-- nodes have a degree of at least 0
pub node_not_negative : (ty : Types) (n : List ℕ) → IsNotAbove degree_zero (node_degree_of ty n)
node_not_negative ty n = from_parts degree_zero (node_degree_of ty n) record { standard = omega (arith, ints); tied = λ same. omega (arith, ints) }

module _ (eq : Equation) (rule : Rule) (lows : List Degree) (low : AreLow eq rule lows) where
  -- above an edge of type k
  low-allowed : (k : ℕ) (t : Plain) → IsAllowedAbove eq.types rule k t → edge_count_of t ≤ 24 →
      decoration_sum_of t ≤ 64 →
      IsNotAbove (lows_of eq.types lows (node_type_of t)) (degree_of eq.types t) →
      IsNotAbove (low_at lows k) (degree_plus (type_degree eq.types k) (degree_of eq.types t))
  low-allowed k t (inl noise) e d h =
      let here : IsNotAbove degree_zero (degree_of eq.types t) = subst (λ (es : List EdgeLabel). IsNotAbove (lows_of eq.types lows es) (degree_of eq.types t)) noise.1 h in
      subst (λ (x : Degree). IsNotAbove x (degree_plus (type_degree eq.types k) (degree_of eq.types t))) (plus_zero (type_degree eq.types k) ∙ sym (low.noises k noise.0))
      (plus_not_above (type_degree eq.types k) (type_degree eq.types k) degree_zero (degree_of eq.types t) (not_above_self (type_degree eq.types k)) here)
  low-allowed k t (inr kernel) e d h =
      let row = kernel.0 in
      let n = kernel.3.0 in
      let same : labels n ≡ node_type_of t = kernel.3.2 in
      let below = low.kernels row n kernel.1 kernel.3.1 (subst IsUsable (sym same) (node_usable t e d)) in
      let named : IsNotAbove (low_at lows k) (degree_plus (type_degree eq.types k) (lows_of eq.types lows (node_type_of t))) =
      subst (λ (es : List EdgeLabel). IsNotAbove (low_at lows k) (degree_plus (type_degree eq.types k) (lows_of eq.types lows es))) same
      (subst (λ (l : ℕ). IsNotAbove (low_at lows l) (degree_plus (type_degree eq.types l) (lows_of eq.types lows (labels n)))) kernel.2 below) in
      not_above_trans (low_at lows k) (degree_plus (type_degree eq.types k) (lows_of eq.types lows (node_type_of t))) (degree_plus (type_degree eq.types k) (degree_of eq.types t)) named
      (plus_not_above (type_degree eq.types k) (type_degree eq.types k) (lows_of eq.types lows (node_type_of t)) (degree_of eq.types t) (not_above_self (type_degree eq.types k)) h)

  -- an edge with what stands above it
  low-edge : (k : ℕ) (p : List ℕ) (t : Plain) → IsNotAbove (low_at lows k) (degree_plus (type_degree eq.types k) (degree_of eq.types t)) →
      IsNotAbove (edge_low eq.types lows (k, p)) (degree_plus (edge_degree_of eq.types k p) (degree_of eq.types t))
  low-edge k p t h = plus_passes (low_at lows k) (type_degree eq.types k) (degree_of eq.types t) (derivative_degree_of eq.types p) h

  -- the degree of a tree is at least what its root's node type brings
  pub lows_not_above : (t : Plain) → ConformsAbove eq.types rule t → edge_count_of t ≤ 24 →
      decoration_sum_of t ≤ 64 →
      IsNotAbove (lows_of eq.types lows (node_type_of t)) (degree_of eq.types t)
  lows_not_above (bare n) h e d = node_not_negative eq.types n
  lows_not_above (graft k p c t) h e d =
      let first = low-edge k p c (low-allowed k c h.0 (omega (arith, e)) (omega (arith, d)) (lows_not_above c h.1 (omega (arith, e)) (omega (arith, d)))) in
      let rest = lows_not_above t h.2 (omega (arith, e)) (omega (arith, d)) in
      subst (λ (x : Degree). IsNotAbove x (degree_of eq.types (graft k p c t))) (sym (lows-put_label eq.types lows (k, p) (node_type_of t)))
      (plus_not_above (edge_low eq.types lows (k, p)) (degree_plus (edge_degree_of eq.types k p) (degree_of eq.types c)) (lows_of eq.types lows (node_type_of t)) (degree_of eq.types t) first rest)

  pub edge_low_not_above : (k : ℕ) (p : List ℕ) (t : Plain) → IsAllowedAbove eq.types rule k t →
      ConformsAbove eq.types rule t → edge_count_of t ≤ 24 → decoration_sum_of t ≤ 64 →
      IsNotAbove (edge_low eq.types lows (k, p)) (degree_plus (edge_degree_of eq.types k p) (degree_of eq.types t))
  edge_low_not_above k p t a h e d = low-edge k p t (low-allowed k t a e d (lows_not_above t h e d))
