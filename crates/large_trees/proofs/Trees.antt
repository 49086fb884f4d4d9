-- The excess of a tree, and how it grows with an edge.
use Rattle.std.proofs.Common.{◌≡◌, ℕ, ◌+◌, ◌<◌, min, ℤ, pos, ◌+ℤ◌, ◌-ℤ◌, ◌≤ℤ◌, List, [], ◌∷◌, length, map, refl, ap, ◌∙◌, subst, arith, inl, inr, true, Some}
use Rattle.std.specs.Prelude.{fold, int_lt, slice_get, unwrap_or}
use Rattle.std.specs.Option.{option_map}
use Rattle.std.specs.declared.option.Option.{Option}
use Rattle.std.proofs.Common.{None}
use Rattle.std.proofs.lemmas.Int.{ints}
use Rattle.degree_numbers.specs.declared.degree.Degree.{Degree}
use Rattle.degree_numbers.specs.Types.{type_degree, size_in_units, kind_of}
use Rattle.degree_numbers.specs.Degree.{degree_zero}
use Rattle.degree_numbers.specs.declared.types.TypeEntry.{TypeEntry}
use Rattle.degree_numbers.specs.declared.types.Kind.{Kind}
use Rattle.degree_numbers.specs.declared.types.Kind.TheVariants.{Noise, Kernel}
use Rattle.equations.specs.declared.equation.Equation.{Equation}
use Rattle.ordered_lists.specs.Members.{IsIn}
use Rattle.plain_trees.specs.Plain.{Plain, bare, graft}
use Rattle.plain_trees.specs.Building.{zeros}
use Rattle.plain_trees.specs.Degree.{degree_of, empty_tree}
use Rattle.normal_rule.specs.declared.rule.EdgeType.{EdgeType}
use Rattle.normal_rule.specs.declared.rule.NodeType.{NodeType}
use Rattle.normal_rule.specs.declared.rule.RuleRow.{RuleRow}
use Rattle.normal_rule.specs.declared.rule.Rule.{Rule}
use Rattle.normal_rule.specs.Regularity.{kernel_regularity, regularity_by, regularity_at, regularity_of, edge_regularity, node_regularity, IsSubcritical}
use Rattle.conforming_trees.specs.Conforming.{label, labels, IsInRule}
use Rattle.conforming_trees.proofs.Roots.{zeros_degree}
use Rattle.large_trees.specs.declared.count.Count.{Count}
use Rattle.large_trees.specs.declared.excess.Excess.{Excess}
use Rattle.large_trees.specs.Classes.{most_of, weight_at, class_of}
use Rattle.large_trees.specs.Lines.{excess_plus, no_excess}
use Rattle.large_trees.specs.Cells.{root_labels, IsDrawn, labels_regularity, planted_excess}
use Rattle.large_trees.specs.Sums.{gap_of}
use Rattle.large_trees.proofs.Heights.{height}
use Rattle.large_trees.proofs.LineLaws.{excess_is}

-- by how much the degree lies above the regularity of the root's edge types
abbrev pub tree_excess : Equation → Plain → Excess
tree_excess eq t = record { a = (degree_of eq.types t).a -ℤ labels_regularity eq (root_labels t); b = (degree_of eq.types t).b }

pub graft_excess : (eq : Equation) (k : ℕ) (p : List ℕ) (c t : Plain) → tree_excess eq (graft k p c t) ≡ excess_plus (tree_excess eq t) (planted_excess eq k c)
graft_excess eq k p c t =
    excess_is (tree_excess eq (graft k p c t)) (excess_plus (tree_excess eq t) (planted_excess eq k c)) (omega (arith, ints)) (omega (arith, ints))

pub undecorated_size : (eq : Equation) → size_in_units eq.types zeros ≡ 0
undecorated_size eq = grind (arith, ints, ap (λ (d : Degree). d.a) (zeros_degree eq.types))

pub bare_excess : (eq : Equation) → tree_excess eq empty_tree ≡ no_excess
bare_excess eq = let size = undecorated_size eq in excess_is (tree_excess eq empty_tree) no_excess (omega (arith, ints)) refl

-- the regularity of a node type is that of its edge types
sum_from : (eq : Equation) (a : ℤ) (es : List EdgeType) → fold (λ s e. s +ℤ edge_regularity eq e) a es ≡ a +ℤ labels_regularity eq (map label es)
sum_from eq a [] = omega (arith, ints)
sum_from eq a (e ∷ es) = let rest = sum_from eq (a +ℤ edge_regularity eq e) es in rest ∙ omega (arith, ints)

pub regularity_labels : (eq : Equation) (n : NodeType) → node_regularity eq n ≡ labels_regularity eq (labels n)
regularity_labels eq n = sum_from eq (pos 0) n.edges ∙ omega (arith, ints)

pub node_excess : (eq : Equation) (k : ℕ) (n : NodeType) (c : Plain) → labels n ≡ root_labels c →
    planted_excess eq k c ≡ excess_plus (gap_of eq k n) (tree_excess eq c)
node_excess eq k n c h =
    let reg : node_regularity eq n ≡ labels_regularity eq (root_labels c) = regularity_labels eq n ∙ ap (labels_regularity eq) h in
    excess_is (planted_excess eq k c) (excess_plus (gap_of eq k n) (tree_excess eq c)) (omega (arith, ints)) (omega (arith, ints))

-- the inequality at a node
lt_is : (x y : ℤ) → int_lt x y ≡ true → pos 1 ≤ℤ (y -ℤ x)
lt_is x y h = grind (arith, ints)

pub gap_above : (eq : Equation) (rule : Rule) (row : RuleRow) (n : NodeType) →
    IsSubcritical eq rule → IsIn row rule.rows → IsIn n row.nodes →
    pos 1 ≤ℤ (gap_of eq row.kernel.0 n).a
gap_above eq rule row n h r m = lt_is (regularity_of eq row.kernel.0) ((type_degree eq.types row.kernel.0).a +ℤ node_regularity eq n) (h row n r m)

-- classes
pub class_graft : (q : Count) (k : ℕ) (p : List ℕ) (c t : Plain) → class_of q (graft k p c t) ≡ min (most_of q) (weight_at q p + class_of q t + class_of q c)
class_graft q k p c t = omega arith

-- the excess is not below 0, and the height at most one more
abbrev pub HasHeight : Equation → Plain → Type 0
HasHeight eq t = (pos 0 ≤ℤ (tree_excess eq t).a) × (pos (height t) ≤ℤ (pos 1 +ℤ (tree_excess eq t).a))

abbrev pub HasHeightAbove : Equation → ℕ → Plain → Type 0
HasHeightAbove eq k c = (pos 0 ≤ℤ (planted_excess eq k c).a) × (pos (height c) ≤ℤ (planted_excess eq k c).a)

noise_at : (o : Option TypeEntry) (r : ℤ) → option_map (λ e. e.kind) o ≡ Some Noise →
    regularity_at o r ≡ (unwrap_or (option_map (λ e. e.degree) o) degree_zero).a
noise_at None r h = absurd cc
noise_at (Some e) r h = noise_kind e.kind e.degree.a r (some_kind e.kind Noise h)
  where
    some_kind : (k l : Kind) → Some k ≡ Some l → k ≡ l
    some_kind k l s = cc

    noise_kind : (k : Kind) (d z : ℤ) → k ≡ Noise → regularity_by k d z ≡ d
    noise_kind Noise d z s = refl
    noise_kind Kernel d z s = absurd cc

noise_regularity : (eq : Equation) (k : ℕ) → kind_of eq.types k ≡ Some Noise → regularity_of eq k ≡ (type_degree eq.types k).a
noise_regularity eq k h = noise_at (slice_get eq.types.list k) (kernel_regularity eq.unknowns k) h

module _ (eq : Equation) (rule : Rule) (sub : IsSubcritical eq rule) where
  pub noise_above : (k : ℕ) (c : Plain) → kind_of eq.types k ≡ Some Noise → c ≡ empty_tree → planted_excess eq k c ≡ record { a = pos 0; b = (type_degree eq.types k).b }
  noise_above k c h e =
      let size = undecorated_size eq in
      let reg = noise_regularity eq k h in
      rw e (excess_is (planted_excess eq k empty_tree) record { a = pos 0; b = (type_degree eq.types k).b } (omega (arith, ints)) (omega (arith, ints)))

  row_height : (k : ℕ) (c : Plain) (row : RuleRow) (n : NodeType) → IsIn row rule.rows →
      row.kernel.0 ≡ k → IsIn n row.nodes → labels n ≡ root_labels c → HasHeight eq c →
      HasHeightAbove eq k c
  row_height k c row n r same m l h =
      let gap : pos 1 ≤ℤ (gap_of eq k n).a = subst (λ (j : ℕ). pos 1 ≤ℤ (gap_of eq j n).a) same (gap_above eq rule row n sub r m) in
      let sum = ap (λ (x : Excess). x.a) (node_excess eq k n c l) in
      let low = h.0 in
      let high = h.1 in
      (omega (arith, ints), omega (arith, ints))

  pub above_height : (k : ℕ) (c : Plain) → k < length eq.types.list →
      (kind_of eq.types k ≡ Some Noise → c ≡ empty_tree) →
      IsInRule eq.types rule k (root_labels c) → HasHeight eq c → HasHeightAbove eq k c
  above_height k c lt e r h =
      elim r [
        | inl noise ↦
            let empty = e noise.0 in
            let value = ap (λ (x : Excess). x.a) (noise_above k c noise.0 empty) in
            let flat : height c ≡ 0 = ap height empty in
            (omega (arith, ints), omega (arith, ints))
        | inr row ↦ row_height k c row.0 row.3.0 row.1 row.2 row.3.1 row.3.2 h
      ]

  pub excess_height : (t : Plain) → IsDrawn eq rule t → HasHeight eq t
  excess_height (bare n) d =
      let value : (tree_excess eq (bare n)).a ≡ pos 0 = ap (λ (x : Excess). x.a) (ap (λ (m : List ℕ). tree_excess eq (bare m)) d ∙ bare_excess eq) in
      (omega (arith, ints), omega (arith, ints))
  excess_height (graft k p c t) d =
      let child = above_height k c d.0.known d.0.noise d.1 (excess_height c d.2) in
      let rest = excess_height t d.3 in
      let sum = ap (λ (x : Excess). x.a) (graft_excess eq k p c t) in
      let c0 = child.0 in
      let c1 = child.1 in
      let t0 = rest.0 in
      let t1 = rest.1 in
      (omega (arith, ints), omega (arith, ints))
