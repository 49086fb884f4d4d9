-- The degree of a tree with the charges on it is at least what the bounds of its root's edge types
-- leave.
use Rattle.std.proofs.Common.{◌≡◌, ℕ, ◌+◌, ◌*◌, ◌≤◌, ℤ, pos, ◌+ℤ◌, ◌≤ℤ◌, List, [], ◌∷◌, sum, refl, subst, inl, inr, arith}
use Rattle.std.specs.Ordering.{is_gt}
use Rattle.std.specs.List.{All}
use Rattle.std.proofs.lemmas.Int.{ints}
use Rattle.std.proofs.Math.Nat.{mul-le-mul, mul-le-mul_left}
use Rattle.ordered_lists.specs.Members.{IsIn}
use Rattle.ordered_lists.proofs.Members.{all_at}
use Rattle.degree_numbers.specs.declared.types.Types.{Types}
use Rattle.degree_numbers.specs.Degree.{degree_zero}
use Rattle.degree_numbers.specs.Types.{AreTypes, type_degree, size_in_units}
use Rattle.equations.specs.declared.equation.Equation.{Equation}
use Rattle.plain_trees.specs.Plain.{Plain, bare, graft, edge_count_of, decoration_sum_of}
use Rattle.plain_trees.specs.Degree.{IsMultiIndex, HasTypes, degree_of}
use Rattle.normal_rule.specs.declared.rule.NodeType.{NodeType}
use Rattle.normal_rule.specs.declared.rule.RuleRow.{RuleRow}
use Rattle.normal_rule.specs.declared.rule.Rule.{Rule}
use Rattle.conforming_trees.specs.Conforming.{EdgeLabel, edge_label_order, labels, put_label, node_type_of, IsAllowedAbove, ConformsAbove}
use Rattle.conforming_trees.proofs.Degrees.{by_parts}
use Rattle.conforming_trees.proofs.NodeTypes.{if_cons}
use Rattle.large_trees.specs.declared.charges.Charge.{Charge}
use Rattle.large_trees.specs.declared.count.Count.{Count}
use Rattle.large_trees.specs.declared.count.Count.TheVariants.{Edges, Decorations}
use Rattle.large_trees.specs.Classes.{most_of, weight_at}
use Rattle.large_trees.specs.Large.{IsLargeFor, IsUnit, HasNoLarge}
use Rattle.large_trees.specs.Charges.{fine, bound_at, charged_edge, charged_sum, AreBounds, IsBound, IsNodeBound, IsRowBound}
use Rattle.large_trees.proofs.Decorated.{node_least}

-- what is counted of a tree, the decorations of its nodes too
abbrev pub count_of : Count → Plain → ℕ
count_of Edges t = edge_count_of t
count_of Decorations t = decoration_sum_of t

count-graft : (q : Count) (k : ℕ) (p : List ℕ) (c t : Plain) → count_of q (graft k p c t) ≡ weight_at q p + count_of q c + count_of q t
count-graft Edges k p c t = refl
count-graft Decorations k p c t = refl

large-count : (q : Count) (t : Plain) → IsLargeFor q t → most_of q ≤ count_of q t
large-count Edges t h = omega (arith, h)
large-count Decorations t h = omega (arith, h)

charged-put_label : (ty : Types) (c : Charge) (bounds : List ℤ) (e : EdgeLabel) (es : List EdgeLabel) →
    charged_sum ty c bounds (put_label e es) ≡ charged_edge ty c bounds e +ℤ charged_sum ty c bounds es
charged-put_label ty c bounds e [] = refl
charged-put_label ty c bounds e (f ∷ fs) =
    let later : charged_sum ty c bounds (f ∷ put_label e fs) ≡ charged_edge ty c bounds e +ℤ charged_sum ty c bounds (f ∷ fs) = let rest = charged-put_label ty c bounds e fs in omega (arith, ints) in
    if_cons (is_gt (edge_label_order e f)) e f fs (put_label e fs) (λ gs. charged_sum ty c bounds gs ≡ charged_edge ty c bounds e +ℤ charged_sum ty c bounds (f ∷ fs)) later refl

module _ (eq : Equation) (rule : Rule) (types : AreTypes eq.types) (unit : ℕ) (is : IsUnit eq.types unit) (c : Charge) (small : c.each ≤ 1000 * unit) (bounds : List ℤ) (low : AreBounds eq.types bounds)
    (high : All (IsRowBound eq.types c bounds) rule.rows) where
  abbrev charges : Plain → ℕ
  charges t = c.each * count_of c.count t

  abbrev HasCharges : Plain → List EdgeLabel → Type 0
  HasCharges t es = (charged_sum eq.types c bounds es +ℤ pos (charges t)) ≤ℤ fine (degree_of eq.types t).a

  bound_of : (row : RuleRow) (n : NodeType) → IsIn row rule.rows → IsIn n row.nodes → IsBound eq.types c bounds row.kernel.0 (labels n)
  bound_of row n i j = all_at (IsNodeBound eq.types c bounds row.kernel.0) row.nodes n (all_at (IsRowBound eq.types c bounds) rule.rows row high i).each j

  -- a node
  decorations : (n : List ℕ) → IsMultiIndex eq.types.dims n → c.each * sum n ≤ 1000 * size_in_units eq.types n
  decorations n h =
      let same : sum n ≤ sum n = omega arith in
      let most : c.each * sum n ≤ 1000 * unit * sum n = mul-le-mul small same in
      let least : unit * sum n ≤ size_in_units eq.types n = node_least eq.types types unit is n h in
      omega (arith, most, least)

  node_charges : (q : Count) (n : List ℕ) → IsMultiIndex eq.types.dims n → c.each * count_of q (bare n) ≤ 1000 * size_in_units eq.types n
  node_charges Edges n h = omega arith
  node_charges Decorations n h = decorations n h

  -- above an edge
  above_charges : (k : ℕ) (t : Plain) → IsAllowedAbove eq.types rule k t →
      HasCharges t (node_type_of t) →
      (bound_at bounds k +ℤ pos (charges t)) ≤ℤ fine ((type_degree eq.types k).a +ℤ (degree_of eq.types t).a)
  above_charges k t (inl noise) h =
      let here : HasCharges t [] = subst (HasCharges t) noise.1 h in
      let most = low.below k in
      omega (arith, ints)
  above_charges k t (inr kernel) h =
      let row = kernel.0 in
      let n = kernel.3.0 in
      let named : IsBound eq.types c bounds k (labels n) = subst (λ (l : ℕ). IsBound eq.types c bounds l (labels n)) kernel.2 (bound_of row n kernel.1 kernel.3.1) in
      let above = (subst (IsBound eq.types c bounds k) kernel.3.2 named).above in
      omega (arith, ints)

  tree_charges : (t : Plain) → HasTypes eq.types t → ConformsAbove eq.types rule t → HasCharges t (node_type_of t)
  tree_charges (bare n) h a = let node = node_charges c.count n h in omega (arith, ints)
  tree_charges (graft k p s t) h a =
      let first = above_charges k s a.0 (tree_charges s h.1 a.1) in
      let rest = tree_charges t h.2 a.2 in
      let sums = charged-put_label eq.types c bounds (k, p) (node_type_of t) in
      let all : charges (graft k p s t) ≡ c.each * weight_at c.count p + charges s + charges t = rw (count-graft c.count k p s t) (grind arith) in
      omega (arith, ints)

  pub charged_none : HasNoLarge eq rule c.count
  charged_none t candidate below large =
      let root = candidate.conforming.root in
      let bound = subst (IsBound eq.types c bounds root.0.kernel.0) root.2.2 (bound_of root.0 root.2.0 root.1 root.2.1) in
      let more = bound.root in
      let degree = tree_charges t candidate.types candidate.conforming.above in
      let zero = (by_parts (degree_of eq.types t) degree_zero below).standard in
      let most : c.each * most_of c.count ≤ charges t = mul-le-mul_left c.each (large-count c.count t large) in
      omega (arith, ints)
