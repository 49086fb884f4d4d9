-- The rows of a rule, by kernel, and the labels of their node types.
use Rattle.std.proofs.Common.{◌≡◌, ℕ, zero, suc, ◌+◌, ◌≤◌, ◌<◌, ◌==◌, true, false, Bool, cond, List, [], ◌∷◌, length, map, refl, sym, ap, ◌∙◌, subst, arith, inl, inr, is_lt}
use Rattle.std.specs.List.{All, AllByRecursion, range_with_len}
use Rattle.std.specs.Prelude.{IsSorted}
use Rattle.std.proofs.lemmas.Bool.Decides.{nat_tests}
use Rattle.std.proofs.lemmas.Simd.{map-map}
use Rattle.degree_numbers.specs.declared.types.TypeId.{TypeId}
use Rattle.degree_numbers.specs.Types.{noise_count, kernels}
use Rattle.equations.specs.declared.equation.Equation.{Equation}
use Rattle.equations.specs.declared.equation.Unknown.{Unknown}
use Rattle.equations.specs.Accepted.{IsEquation}
use Rattle.equations.specs.EdgeTypes.{edge_type_order}
use Rattle.equations.proofs.EdgeTypeLaws.{edge_type_order_total}
use Rattle.ordered_lists.specs.Members.{IsIn}
use Rattle.ordered_lists.proofs.Members.{all_at}
use Rattle.ordered_lists.proofs.Counts.{sorted-cons, first_is_least}
use Rattle.ordered_lists.proofs.Unique.{sorted-rest}
use Rattle.plain_trees.specs.Degree.{IsMultiIndex}
use Rattle.normal_rule.specs.declared.rule.EdgeType.{EdgeType}
use Rattle.normal_rule.specs.declared.rule.NodeType.{NodeType}
use Rattle.normal_rule.specs.declared.rule.RuleRow.{RuleRow}
use Rattle.normal_rule.specs.declared.rule.Rule.{Rule}
use Rattle.normal_rule.specs.Order.{pair_of}
use Rattle.conforming_trees.specs.Conforming.{EdgeLabel, edge_label_order, label, labels, IsInKernelRow, IsRule}
use Rattle.conforming_trees.proofs.Labels.{edge_label_total, IsInLabelOrder}
use Rattle.rule_steps.specs.Sums.{nodes_of_kernel}

not_below : (e : EdgeType) (fs : List EdgeType) →
    AllByRecursion (λ y. is_lt (edge_type_order y (pair_of e)) ≡ false) (map pair_of fs) →
    AllByRecursion (λ y. is_lt (edge_label_order y (label e)) ≡ false) (map label fs)
not_below e [] h = tt
not_below e (f ∷ fs) h = (h.0, not_below e fs h.1)

labels_sorted : (es : List EdgeType) → IsSorted edge_type_order (map pair_of es) → IsInLabelOrder (map label es)
labels_sorted [] h = λ k d l m. absurd (omega arith)
labels_sorted (e ∷ es) h =
    let rest = labels_sorted es (sorted-rest edge_type_order edge_type_order_total (pair_of e) (map pair_of es) h) in
    sorted-cons edge_label_order edge_label_total (label e) (map label es) rest (not_below e es (first_is_least edge_type_order edge_type_order_total (pair_of e) (map pair_of es) h))

abbrev number : TypeId → ℕ
number k = k.0

-- the row of a kernel
pub in_rows : (rows : List RuleRow) (k : ℕ) (n : NodeType) → IsIn n (nodes_of_kernel rows k) →
    (row : RuleRow) × IsIn row rows × (row.kernel.0 ≡ k) × IsIn n row.nodes
in_rows [] k n h = absurd h
in_rows (row ∷ rows) k n h = at (row.kernel.0 == k) refl h (in_rows rows k n)
  where
    at : (b : Bool) → (row.kernel.0 == k) ≡ b → IsIn n (cond b row.nodes (nodes_of_kernel rows k)) → (IsIn n (nodes_of_kernel rows k) → (r : RuleRow) × IsIn r rows × (r.kernel.0 ≡ k) × IsIn n r.nodes) →
        (r : RuleRow) × IsIn r (row ∷ rows) × (r.kernel.0 ≡ k) × IsIn n r.nodes
    at true q m later = (row, inl refl, grind (arith, nat_tests, q), m)
    at false q m later = let rest = later m in (rest.0, inr rest.1, rest.2, rest.3)

kernels_from : (rows : List RuleRow) (a n : ℕ) (row : RuleRow) → map (λ (r : RuleRow). r.kernel.0) rows ≡ range_with_len a n → IsIn row rows → a ≤ row.kernel.0
kernels_from [] a n row h i = absurd i
kernels_from (r ∷ rows) a zero row h i = absurd cc
kernels_from (r ∷ rows) a (suc n) row h (inl e) = let first : r.kernel.0 ≡ a = cc in let same = ap (λ (x : RuleRow). x.kernel.0) e in omega (arith, first, same)
kernels_from (r ∷ rows) a (suc n) row h (inr i) =
    let rest : map (λ (x : RuleRow). x.kernel.0) rows ≡ range_with_len (a + 1) n = cc in
    let later = kernels_from rows (a + 1) n row rest i in
    omega (arith, later)

not_same : (i k : ℕ) → k < i → (k == i) ≡ false
not_same i k h = grind (arith, nat_tests, h)

same_number : (k : ℕ) → (k == k) ≡ true
same_number k = grind (arith, nat_tests)

row_is : (rows : List RuleRow) (a n : ℕ) (row : RuleRow) →
    map (λ (r : RuleRow). r.kernel.0) rows ≡ range_with_len a n → IsIn row rows →
    nodes_of_kernel rows row.kernel.0 ≡ row.nodes
row_is [] a n row h i = absurd i
row_is (r ∷ rows) a zero row h i = absurd cc
row_is (r ∷ rows) a (suc n) row h (inl e) = subst (λ (x : RuleRow). nodes_of_kernel (r ∷ rows) x.kernel.0 ≡ x.nodes) e (rw (same_number r.kernel.0) refl)
row_is (r ∷ rows) a (suc n) row h (inr i) =
    let first : r.kernel.0 ≡ a = cc in
    let rest : map (λ (x : RuleRow). x.kernel.0) rows ≡ range_with_len (a + 1) n = cc in
    let after = kernels_from rows (a + 1) n row rest i in
    let apart = not_same row.kernel.0 r.kernel.0 (omega (arith, first, after)) in
    rw apart (row_is rows (a + 1) n row rest i)

module _ (eq : Equation) (rule : Rule) (equation : IsEquation eq) (is_rule : IsRule eq rule) where
  pub numbers : map (λ (r : RuleRow). r.kernel.0) rule.rows ≡ range_with_len (noise_count eq.types) (length (kernels eq.types))
  numbers =
      sym (map-map number (λ (r : RuleRow). r.kernel) rule.rows) ∙ ap (map number) is_rule.rows.kernels ∙ map-map number (λ (u : Unknown). u.kernel) eq.unknowns ∙ equation.kernels

  pub nodes_of_row : (row : RuleRow) → IsIn row rule.rows → nodes_of_kernel rule.rows row.kernel.0 ≡ row.nodes
  nodes_of_row row h = row_is rule.rows (noise_count eq.types) (length (kernels eq.types)) row numbers h

  -- the node types of a kernel are those of its row
  pub in_kernel_row : (k : ℕ) (n : NodeType) → IsIn n (nodes_of_kernel rule.rows k) → IsInKernelRow rule k (labels n)
  in_kernel_row k n h = let row = in_rows rule.rows k n h in (row.0, row.1, row.2, (n, row.3, refl))

  pub from_kernel_row : (k : ℕ) (es : List EdgeLabel) → IsInKernelRow rule k es → (n : NodeType) × IsIn n (nodes_of_kernel rule.rows k) × (labels n ≡ es)
  from_kernel_row k es h =
      let same : nodes_of_kernel rule.rows k ≡ h.0.nodes = ap (nodes_of_kernel rule.rows) (sym h.2) ∙ nodes_of_row h.0 h.1 in
      (h.3.0, subst (IsIn h.3.0) (sym same) h.3.1, h.3.2)

  pub node_labels_sorted : (k : ℕ) (n : NodeType) → IsIn n (nodes_of_kernel rule.rows k) → IsInLabelOrder (labels n)
  node_labels_sorted k n h = let row = in_rows rule.rows k n h in labels_sorted n.edges ((is_rule.normal row.0 row.1).in_order n row.3)

  -- the edge types of the rule have five directions
  pub node_directions : (k : ℕ) (n : NodeType) → IsIn n (nodes_of_kernel rule.rows k) → All (λ e. IsMultiIndex eq.types.dims e.p.entries) n.edges
  node_directions k n h =
      let row = in_rows rule.rows k n h in
      all_at (λ (x : NodeType). All (λ e. IsMultiIndex eq.types.dims e.p.entries) x.edges) row.0.nodes n
      (all_at (λ (w : RuleRow). All (λ x. All (λ e. IsMultiIndex eq.types.dims e.p.entries) x.edges) w.nodes) rule.rows row.0 is_rule.directions row.1) row.3
