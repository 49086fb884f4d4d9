-- What the tests say: low degrees and budgets of the rule.
use Rattle.std.proofs.Common.{◌≡◌, ℕ, List, ◌∷◌, ◌++◌, refl, sym, ap, ◌∙◌, subst, inl, arith}
use Rattle.std.specs.List.{All}
use Rattle.std.proofs.lemmas.Int.{ints}
use Rattle.degree_numbers.specs.declared.Degree.{Degree}
use Rattle.degree_numbers.specs.Degree.{degree_plus}
use Rattle.degree_numbers.specs.Types.{type_degree, kind_of}
use Rattle.degree_numbers.proofs.Orders.{degree_is}
use Rattle.equations.specs.declared.Equation.{Equation}
use Rattle.ordered_lists.specs.Members.{IsIn}
use Rattle.ordered_lists.proofs.Members.{all_at, from_map, in_append_right}
use Rattle.plain_trees.specs.Degree.{edge_degree_of, derivative_degree_of}
use Rattle.normal_rule.specs.declared.EdgeType.{EdgeType}
use Rattle.normal_rule.specs.declared.NodeType.{NodeType}
use Rattle.normal_rule.specs.declared.Rule.{Rule}
use Rattle.conforming_trees.specs.Conforming.{EdgeLabel, label, labels}
use Rattle.conforming_trees.specs.Budgets.{IsNotAbove, low_at, lows_of, most_at, AreLow, AreBudgets}
use Rattle.conforming_trees.proofs.Degrees.{not_above_self, plus_cancels}
use Rattle.conforming_trees.proofs.Lows.{lows-append}
use Rattle.tree_budgets.specs.Bounds.{AreTypeBounds, IsLowAt, IsLowRow, IsEnough, AreEnough, IsEnoughRow}

module _ (eq : Equation) (rule : Rule) (lows : List Degree) where
  pub low_rows : AreTypeBounds eq.types lows → All (IsLowRow eq.types lows) rule.rows → AreLow eq rule lows
  low_rows b h = record {
    noises = b.noises;
    kernels = λ row n i m usable. (all_at (IsLowAt eq.types lows row.kernel.0) row.nodes n ((all_at (IsLowRow eq.types lows) rule.rows row h i).each) m).low usable;
  }

  -- what the edge itself has at least is on both sides
  cancelled : (most low next degree loss front back : Degree) →
      IsNotAbove (degree_plus most low) (degree_plus (degree_plus next degree) (degree_plus front (degree_plus (degree_plus low loss) back))) →
      IsNotAbove most (degree_plus (degree_plus (degree_plus degree loss) next) (degree_plus front back))
  cancelled most low next degree loss front back h =
      let left = degree_plus (degree_plus (degree_plus degree loss) next) (degree_plus front back) in
      let all = degree_plus (degree_plus next degree) (degree_plus front (degree_plus (degree_plus low loss) back)) in
      plus_cancels most left low low (subst (IsNotAbove (degree_plus most low)) (degree_is all (degree_plus left low) (omega (arith, ints)) (omega (arith, ints))) h) (not_above_self low)

  edge_in : (n : NodeType) (front : List EdgeLabel) (e : EdgeLabel) (back : List EdgeLabel) →
      labels n ≡ front ++ e ∷ back → (f : EdgeType) × IsIn f n.edges × (label f ≡ e)
  edge_in n front e back same = from_map label e n.edges (subst (IsIn e) (sym same) (in_append_right e front (e ∷ back) (inl refl)))

  pub enough_rows : (mosts : List Degree) → All (IsEnoughRow eq.types lows mosts) rule.rows → AreBudgets eq rule lows mosts
  enough_rows mosts h = record {
    roots = λ row i. (all_at (IsEnoughRow eq.types lows mosts) rule.rows row h i).root;
    children = λ row n front e back i m usable same kernel.
        let f = edge_in n front e back same in
        let each = (all_at (AreEnough eq.types lows mosts row.kernel.0) row.nodes n ((all_at (IsEnoughRow eq.types lows mosts) rule.rows row h i).each) m).each usable in
        let type : f.0.kind.0 ≡ e.0 = ap (λ (l : EdgeLabel). l.0) f.2 in
        let at = (all_at (IsEnough eq.types lows mosts row.kernel.0 n.edges) n.edges f.0 each f.1).enough (ap (kind_of eq.types) type ∙ kernel) in
        let named : IsNotAbove (degree_plus (most_at mosts row.kernel.0) (low_at lows e.0)) (degree_plus (degree_plus (most_at mosts e.0) (type_degree eq.types e.0)) (lows_of eq.types lows (labels n))) =
        subst (λ (k : ℕ). IsNotAbove (degree_plus (most_at mosts row.kernel.0) (low_at lows k)) (degree_plus (degree_plus (most_at mosts k) (type_degree eq.types k)) (lows_of eq.types lows (labels n)))) type at in
        let split : lows_of eq.types lows (labels n) ≡ degree_plus (lows_of eq.types lows front) (lows_of eq.types lows (e ∷ back)) = ap (lows_of eq.types lows) same ∙ lows-append eq.types lows front (e ∷ back) in
        subst (λ (x : Degree). IsNotAbove (most_at mosts row.kernel.0) (degree_plus (degree_plus (edge_degree_of eq.types e.0 e.1) (most_at mosts e.0)) x)) (sym (lows-append eq.types lows front back))
        (cancelled (most_at mosts row.kernel.0) (low_at lows e.0) (most_at mosts e.0) (type_degree eq.types e.0) (derivative_degree_of eq.types e.1) (lows_of eq.types lows front) (lows_of eq.types lows back)
        (subst (λ (x : Degree). IsNotAbove (degree_plus (most_at mosts row.kernel.0) (low_at lows e.0)) (degree_plus (degree_plus (most_at mosts e.0) (type_degree eq.types e.0)) x)) split named));
  }
