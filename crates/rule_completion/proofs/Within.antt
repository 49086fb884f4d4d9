-- Rules over the same kernels, of which one holds the other.
use Rattle.std.proofs.Common.{◌≡◌, ℕ, ◌≤◌, List, [], ◌∷◌, length, map, refl, sym, ap, ◌∙◌, subst, inl, inr, arith, Ordering, Less, Equal, Greater}
use Rattle.std.specs.Ordering.{ordering_reverse}
use Rattle.std.specs.Cmp.{IsTotalOrder}
use Rattle.std.specs.FinMap.{IsAntisymmetric}
use Rattle.std.specs.List.Sorted.{IsStrictlySortedBy}
use Rattle.degree_numbers.specs.declared.types.TypeId.{TypeId}
use Rattle.equations.specs.declared.equation.Equation.{Equation}
use Rattle.equations.specs.Accepted.{IsEquation}
use Rattle.ordered_lists.specs.Members.{IsIn}
use Rattle.ordered_lists.proofs.Insertion.{below_all, missing, rest_in}
use Rattle.ordered_lists.proofs.Lengths.{length-within}
use Rattle.normal_rule.specs.declared.rule.EdgeType.{EdgeType}
use Rattle.normal_rule.specs.declared.rule.NodeType.{NodeType}
use Rattle.normal_rule.specs.declared.rule.Rule.{Rule}
use Rattle.normal_rule.specs.declared.rule.RuleRow.{RuleRow}
use Rattle.normal_rule.specs.Order.{node_order, node_order_total}
use Rattle.normal_rule.specs.Rule.{nodes_in, node_count}
use Rattle.normal_rule.proofs.OrderLaws.{node_order_exact}
use Rattle.conforming_trees.specs.Conforming.{EdgeLabel, label, labels, IsInKernelRow, IsRule}
use Rattle.rule_steps.specs.Sums.{nodes_of_kernel}
use Rattle.rule_steps.proofs.Rows.{nodes_of_row, from_kernel_row}

-- a sorted list is another that holds it, and is no longer
pub equal-within : {K : Type 0} (c : K → K → Ordering) → IsTotalOrder c → IsAntisymmetric c →
    (xs ys : List K) → IsStrictlySortedBy c xs → IsStrictlySortedBy c ys →
    ((n : K) → IsIn n xs → IsIn n ys) → length ys ≤ length xs → xs ≡ ys
unfolding IsStrictlySortedBy
equal-within c o exact [] [] s r f short = refl
equal-within c o exact [] (y ∷ ys) s r f short = absurd (omega (arith, short))
equal-within c o exact (x ∷ xs) [] s r f short = absurd (f x (inl refl))
equal-within {K} c o exact (x ∷ xs) (y ∷ ys) s r f short =
    (elim (c x y) as (λ d. c x y ≡ d → x ∷ xs ≡ y ∷ ys) [
      | Less ↦ λ e. absurd (missing c o x y ys e r.0 (f x (inl refl)))
      | Equal ↦ λ e.
          let q : x ≡ y = exact x y e in
          let rest = equal-within c o exact xs ys s.1 r.1 (λ n h. rest_in c o x y n xs ys q s.0 h (f n (inr h))) (omega (arith, short)) in
          ap (λ (z : K). z ∷ xs) q ∙ ap (λ (zs : List K). y ∷ zs) rest
      | Greater ↦ λ e.
          let first : c y x ≡ Less = o.antisymm y x ∙ ap ordering_reverse e in
          let fewer = length-within c o exact (y ∷ x ∷ xs) (y ∷ ys) ((first, below_all c o y x xs first s.0), s) r (λ n h. elim h [ inl q ↦ inl q | inr i ↦ f n i ]) in
          absurd (omega (arith, fewer, short))
    ]) refl

-- the edge types of node types are told by their labels
abbrev edge_of_label : EdgeLabel → EdgeType
edge_of_label l = record { kind = record { 0 = l.0 }; p = record { entries = l.1 } }

edges_of_labels : (es : List EdgeType) → map edge_of_label (map label es) ≡ es
edges_of_labels [] = refl
edges_of_labels (e ∷ es) = ap (λ (fs : List EdgeType). e ∷ fs) (edges_of_labels es)

pub same_labels : (n m : NodeType) → labels n ≡ labels m → n ≡ m
same_labels n m h =
    let edges = sym (edges_of_labels n.edges) ∙ ap (map edge_of_label) h ∙ edges_of_labels m.edges in
    λ i. record { edges = edges i }

abbrev pub AreNodesWithin : RuleRow → RuleRow → Type 0
AreNodesWithin row other = (n : NodeType) → IsIn n row.nodes → IsIn n other.nodes

-- row by row
abbrev pub AreWithin : List RuleRow → List RuleRow → Type 0
AreWithin [] [] = Unit {0}
AreWithin [] (s ∷ ss) = ⊥
AreWithin (r ∷ rs) [] = ⊥
AreWithin (r ∷ rs) (s ∷ ss) = (r.kernel ≡ s.kernel) × AreNodesWithin r s × AreWithin rs ss

abbrev pub AreSorted : List RuleRow → Type 0
AreSorted rows = (row : RuleRow) → IsIn row rows → IsStrictlySortedBy node_order row.nodes

rows_within : (rs ss : List RuleRow) → map (λ row. row.kernel) rs ≡ map (λ row. row.kernel) ss →
    ((r s : RuleRow) → IsIn r rs → IsIn s ss → r.kernel ≡ s.kernel → AreNodesWithin r s) →
    AreWithin rs ss
rows_within [] [] h f = tt
rows_within [] (s ∷ ss) h f = absurd cc
rows_within (r ∷ rs) [] h f = absurd cc
rows_within (r ∷ rs) (s ∷ ss) h f =
    let kernel : r.kernel ≡ s.kernel = cc in
    let rest : map (λ (row : RuleRow). row.kernel) rs ≡ map (λ (row : RuleRow). row.kernel) ss = cc in
    (kernel, f r s (inl refl) (inl refl) kernel, rows_within rs ss rest (λ a b i j. f a b (inr i) (inr j)))

pub nodes-within : (rs ss : List RuleRow) → AreSorted rs → AreSorted ss → AreWithin rs ss → nodes_in rs ≤ nodes_in ss
nodes-within [] [] a b h = omega arith
nodes-within [] (s ∷ ss) a b h = absurd h
nodes-within (r ∷ rs) [] a b h = absurd h
nodes-within (r ∷ rs) (s ∷ ss) a b h =
    let first = length-within node_order node_order_total node_order_exact r.nodes s.nodes (a r (inl refl)) (b s (inl refl)) h.1 in
    let rest = nodes-within rs ss (λ row i. a row (inr i)) (λ row i. b row (inr i)) h.2 in
    omega (arith, first, rest)

row_is : (r s : RuleRow) → r.kernel ≡ s.kernel → r.nodes ≡ s.nodes → r ≡ s
row_is r s kernel nodes = λ i. record { kernel = kernel i; nodes = nodes i }

pub rows-equal : (rs ss : List RuleRow) → AreSorted rs → AreSorted ss → AreWithin rs ss → nodes_in ss ≤ nodes_in rs → rs ≡ ss
rows-equal [] [] a b h few = refl
rows-equal [] (s ∷ ss) a b h few = absurd h
rows-equal (r ∷ rs) [] a b h few = absurd h
rows-equal (r ∷ rs) (s ∷ ss) a b h few =
    let after_r = λ (row : RuleRow) (i : IsIn row rs). a row (inr i) in
    let after_s = λ (row : RuleRow) (i : IsIn row ss). b row (inr i) in
    let first = length-within node_order node_order_total node_order_exact r.nodes s.nodes (a r (inl refl)) (b s (inl refl)) h.1 in
    let others = nodes-within rs ss after_r after_s h.2 in
    let nodes = equal-within node_order node_order_total node_order_exact r.nodes s.nodes (a r (inl refl)) (b s (inl refl)) h.1 (omega (arith, few, others)) in
    let rest = rows-equal rs ss after_r after_s h.2 (omega (arith, few, first)) in
    ap (λ (x : RuleRow). x ∷ rs) (row_is r s h.0 nodes) ∙ ap (λ (xs : List RuleRow). s ∷ xs) rest

abbrev pub Holds : Rule → Rule → Type 0
Holds other rule = (k : ℕ) (es : List EdgeLabel) → IsInKernelRow rule k es → IsInKernelRow other k es

module _ (eq : Equation) (rule other : Rule) (equation : IsEquation eq) (is_rule : IsRule eq rule) (is_other : IsRule eq other) where
  sorted : (r : Rule) → IsRule eq r → AreSorted r.rows
  sorted r h row i = (h.normal row i).ascending

  held_nodes : Holds other rule → (r s : RuleRow) → IsIn r rule.rows → IsIn s other.rows → r.kernel ≡ s.kernel → AreNodesWithin r s
  held_nodes holds r s i j kernel n m =
      let there = from_kernel_row eq other equation is_other r.kernel.0 (labels n) (holds r.kernel.0 (labels n) (r, i, refl, (n, m, refl))) in
      let same = ap (λ (k : TypeId). nodes_of_kernel other.rows k.0) kernel ∙ nodes_of_row eq other equation is_other s j in
      subst (λ (x : NodeType). IsIn x s.nodes) (same_labels there.0 n there.2) (subst (IsIn there.0) same there.1)

  within : Holds other rule → AreWithin rule.rows other.rows
  within holds = rows_within rule.rows other.rows (is_rule.rows.kernels ∙ sym is_other.rows.kernels) (held_nodes holds)

  -- a rule that holds another has no fewer node types
  pub holds-count : Holds other rule → node_count rule ≤ node_count other
  holds-count holds = nodes-within rule.rows other.rows (sorted rule is_rule) (sorted other is_other) (within holds)

  -- and where it has no more, it is the same rule
  pub holds-same : Holds other rule → node_count other ≤ node_count rule → rule ≡ other
  holds-same holds few =
      let rows = rows-equal rule.rows other.rows (sorted rule is_rule) (sorted other is_other) (within holds) few in
      λ i. record { rows = rows i }
