-- A too large tree of a degree of at most 0 is found in the cells, and what is found there is one.
use Rattle.std.proofs.Common.{◌≡◌, ◌≢◌, ℕ, suc, ◌+◌, ◌-◌, ◌*◌, ◌<◌, ◌≤◌, max, ℤ, pos, ◌+ℤ◌, ◌≤ℤ◌, List, length, sum, slice_index, refl, sym, ap, ◌∙◌, subst, inl, inr, arith, unsigned_abs, Greater}
use Rattle.std.proofs.lemmas.Int.{ints}
use Rattle.std.proofs.Math.Nat.{mul-le-mul, mul_assoc}
use Rattle.degree_numbers.specs.declared.degree.Degree.{Degree}
use Rattle.degree_numbers.specs.Degree.{degree_order, degree_plus, degree_zero}
use Rattle.degree_numbers.specs.Types.{size_in_units}
use Rattle.equations.specs.declared.equation.Equation.{Equation}
use Rattle.equations.specs.Accepted.{IsEquation}
use Rattle.ordered_lists.specs.Members.{IsIn}
use Rattle.plain_trees.specs.Plain.{Plain, bare, graft, edge_count_of, decoration_sum_of}
use Rattle.plain_trees.specs.Building.{zeros}
use Rattle.plain_trees.specs.Canon.{canon}
use Rattle.plain_trees.specs.Degree.{IsMultiIndex, degree_of, node_degree_of}
use Rattle.plain_trees.proofs.CanonLaws.{canon_canonical, canon_same}
use Rattle.plain_trees.proofs.DegreeLaws.{canon_degree, canon_types, same_planted}
use Rattle.plain_trees.proofs.Inserts.{canon_sum, canon_count}
use Rattle.normal_rule.specs.declared.rule.NodeType.{NodeType}
use Rattle.normal_rule.specs.declared.rule.RuleRow.{RuleRow}
use Rattle.normal_rule.specs.declared.rule.Rule.{Rule}
use Rattle.normal_rule.specs.Regularity.{IsSubcritical, node_regularity}
use Rattle.normal_rule.proofs.Sizes.{regularity_within, degree_within}
use Rattle.conforming_trees.specs.Conforming.{EdgeLabel, labels, node_type_of, IsRule}
use Rattle.conforming_trees.specs.Listed.{IsCandidate, IsTooLarge, HasTooLargeTree}
use Rattle.conforming_trees.specs.Budgets.{with_root}
use Rattle.conforming_trees.proofs.Degrees.{IsAtMostBy, by_parts, from_parts}
use Rattle.conforming_trees.proofs.Labels.{IsInLabelOrder}
use Rattle.conforming_trees.proofs.Canonical.{node_type-canon, conforms-canon}
use Rattle.conforming_trees.proofs.Roots.{zeros_degree, with_own_root, node_type-with_root, edge_count-with_root, types-with_root, above-with_root, degree_by_root, decoration_sum_by_root}
use Rattle.large_trees.specs.declared.count.Count.{Count}
use Rattle.large_trees.specs.declared.count.Count.TheVariants.{Edges, Decorations}
use Rattle.large_trees.specs.declared.excess.Excess.{Excess}
use Rattle.large_trees.specs.declared.line.Line.{Line as Cells}
use Rattle.large_trees.specs.Classes.{class_of, weight_of}
use Rattle.large_trees.specs.Lines.{Line, HasCell, IsAtMost, IsLeast, most_excess, no_excess}
use Rattle.large_trees.specs.Cells.{root_labels, IsDrawn, labels_regularity, AreExact}
use Rattle.large_trees.specs.Sums.{IsPartial}
use Rattle.large_trees.specs.Large.{IsLargeFor, Lacks, planted_lack, IsUnit, degree_at_root, IsLargeAt, HasLargeNode, HasLarge}
use Rattle.large_trees.proofs.LineLaws.{at_most_trans, cell_below}
use Rattle.large_trees.proofs.Trees.{tree_excess, regularity_labels, gap_above, excess_height}
use Rattle.large_trees.proofs.Families.{IsTree, labels_fit, partial_tree, tree_partial, exact_cells}
use Rattle.large_trees.proofs.Drawings.{node_type-roots, roots-canonical, labels_sorted, drawn_types, drawn_conforms, strip, node_sum, roots-strip, weight-strip, strip_drawn, weight_edges, weight_sum, drawn_sum, drawn_root}
use Rattle.large_trees.proofs.Decorated.{strip_degree, unplanted_lack, lack_unplanted, single, single_length, single_rest, single_sum, single_size, unit_above}

-- the regularity of a node type is not far below 0
pub regularity_low : (eq : Equation) (rule : Rule) (row : RuleRow) (n : NodeType) → IsEquation eq →
    IsSubcritical eq rule → IsIn row rule.rows → IsIn n row.nodes →
    pos 0 ≤ℤ (pos most_excess +ℤ node_regularity eq n)
regularity_low eq rule row n e sub i m =
    let gap = gap_above eq rule row n sub i m in
    let reg = regularity_within eq row.kernel.0 e in
    let deg = degree_within eq row.kernel.0 e in
    let r0 = reg.low in
    let d1 = deg.high in
    omega (arith, ints)

-- what a tree lacks at the root, it has
abbrev has_lack : Count → Plain → Type 0
has_lack q t = (l : ℕ) × Lacks q (class_of q (strip t)) l × (l ≤ node_sum t)

lacks_for : (q : Count) (t : Plain) → IsLargeFor q t → has_lack q t
lacks_for Edges t h =
    let count : weight_of Edges (strip t) ≡ edge_count_of t = weight-strip Edges t ∙ weight_edges t in
    (0, (omega (arith, count, h), refl), omega arith)
lacks_for Decorations t h =
    let count : weight_of Decorations (strip t) ≡ weight_of Decorations t = weight-strip Decorations t in
    let all = weight_sum t in
    (65 - class_of Decorations (strip t), omega (arith, count), omega (arith, count, all, h))

module _ (eq : Equation) (rule : Rule) (e : IsEquation eq) (f : IsRule eq rule) (sub : IsSubcritical eq rule) (unit : ℕ) (u : IsUnit eq.types unit) where
  -- the degree at the root, with fewer decorations than the tree has
  root_least : (q : Count) (t : Plain) (n : NodeType) (v : Excess) (l : ℕ) →
      labels n ≡ root_labels (strip t) → IsAtMost v (tree_excess eq (strip t)) → l ≤ node_sum t →
      (((degree_of eq.types (strip t)).a +ℤ pos (unit * node_sum t)) ≤ℤ (degree_of eq.types t).a) → (degree_of eq.types (strip t)).b ≡ (degree_of eq.types t).b → IsAtMostBy (degree_of eq.types t) degree_zero →
      IsAtMost (degree_at_root (node_regularity eq n) unit v l) no_excess
  root_least q t n v l same h most a b below =
      let reg : node_regularity eq n ≡ labels_regularity eq (root_labels (strip t)) = regularity_labels eq n ∙ ap (labels_regularity eq) same in
      let own : unit ≤ unit = omega arith in
      let cost : unit * l ≤ unit * node_sum t = mul-le-mul own most in
      let hs = h.standard in
      let zs = below.standard in
      record {
        standard = omega (arith, ints);
        tied = λ tie. let ht = h.tied (omega (arith, ints)) in let zt = below.tied (omega (arith, ints)) in omega (arith, ints);
      }

  pub large_found : (q : Count) (cells : List Cells) (t : Plain) → AreExact eq rule q cells →
      IsCandidate eq rule t → degree_order (degree_of eq.types t) degree_zero ≢ Greater →
      IsLargeFor q t → HasLarge eq rule q cells unit
  large_found q cells t exact c below large =
      let row = c.conforming.root.0 in
      let i = c.conforming.root.1 in
      let n = c.conforming.root.2.0 in
      let m = c.conforming.root.2.1 in
      let same : labels n ≡ root_labels (strip t) = c.conforming.root.2.2 ∙ roots-canonical t c.canonical ∙ sym (roots-strip t) in
      let drawn = strip_drawn eq rule t c.canonical c.types c.conforming.above in
      let high = excess_height eq rule sub (strip t) drawn in
      let degrees = strip_degree eq.types e.types unit u t c.types in
      let by = by_parts (degree_of eq.types t) degree_zero below in
      let reg : node_regularity eq n ≡ labels_regularity eq (root_labels (strip t)) = regularity_labels eq n ∙ ap (labels_regularity eq) same in
      let low = regularity_low eq rule row n e sub i m in
      let h1 = high.1 in
      let zs = by.standard in
      let da = degrees.0 in
      let few : (tree_excess eq (strip t)).a ≤ℤ pos most_excess = omega (arith, ints) in
      let found = tree_partial eq rule q sub (suc most_excess) cells (exact_cells eq rule q sub cells exact) (strip t) drawn (omega (arith, ints)) few in
      let lack = lacks_for q t large in
      let planted : planted_lack eq.types (labels n) ≤ node_sum t = rw (same, roots-strip t) (unplanted_lack eq.types t c.unplanted) in
      let most : max lack.0 (planted_lack eq.types (labels n)) ≤ node_sum t = omega arith in (
        row,
        i,
        (
          n,
          m,
          (
            class_of q (strip t),
            found.0,
            subst (λ (es : List EdgeLabel). IsPartial q cells es (class_of q (strip t)) found.0) (sym same) found.1,
            (lack.0, lack.1, root_least q t n found.0 (max lack.0 (planted_lack eq.types (labels n))) same found.2 most degrees.0 degrees.1 by),
          ),
        ),
      )

  -- no tree without edges is found
  edge_at : (q : Count) (t : Plain) (m l most : ℕ) → IsDrawn eq rule t → class_of q t ≡ m →
      Lacks q m l → l ≤ most → (((degree_of eq.types t).a +ℤ pos (unit * most)) ≤ℤ pos 0) →
      0 < edge_count_of t
  edge_at q (graft k p c t) m l most d is lack lt at = omega arith
  edge_at Edges (bare n) m l most d is lack lt at = let none = lack.0 in absurd (omega (arith, is))
  edge_at Decorations (bare n) m l most d is lack lt at =
      let value : (degree_of eq.types (bare n)).a ≡ pos 0 = ap (λ (k : List ℕ). (node_degree_of eq.types k).a) d ∙ ap (λ (x : Degree). x.a) (zeros_degree eq.types) in
      let some : 65 ≤ most = omega (arith, is, lack) in
      let cost : 1 * 65 ≤ unit * most = mul-le-mul (unit_above eq.types e.types unit u) some in
      absurd (omega (arith, ints))

  module _ (q : Count) (cells : List Cells) (row : RuleRow) (n : NodeType) (i : IsIn row rule.rows) (j : IsIn n row.nodes) (m l : ℕ) (v : Excess) (lack : Lacks q m l) (most : ℕ) (enough : max l (planted_lack eq.types (labels n)) ≡ most)
      (at : IsAtMost (degree_at_root (node_regularity eq n) unit v most) no_excess) (t : IsTree eq rule q (suc most_excess) (labels n) m v) where
    abbrev decoration : List ℕ
    decoration = single 5 u.direction most

    abbrev decorated : Plain
    decorated = with_root decoration t.tree

    decoration_multi : IsMultiIndex eq.types.dims decoration
    decoration_multi = record { entries = single_length 5 u.direction most; rest = single_rest 5 u.direction most eq.types.dims u.within }

    decoration_size : size_in_units eq.types decoration ≡ unit * most
    decoration_size =
        let few : u.direction < 5 = let lt = u.within in let dims = e.types.scaling.most in omega arith in
        ap (λ (x : ℕ). unsigned_abs eq.types.units.den * x) (single_size eq.types.scaling 5 u.direction most e.types.scaling.entries few) ∙ sym (mul_assoc (unsigned_abs eq.types.units.den) (slice_index eq.types.scaling u.direction) most) ∙ ap (λ (x : ℕ). x * most) (sym u.is)

    decoration_sum : sum decoration ≡ most
    decoration_sum = let lt = u.within in let dims = e.types.scaling.most in single_sum 5 u.direction most (omega arith)

    own_root : with_root zeros t.tree ≡ t.tree
    own_root = subst (λ (r : List ℕ). with_root r t.tree ≡ t.tree) (drawn_root eq rule t.tree t.drawn) (with_own_root t.tree)

    decorated_degree : degree_of eq.types (canon decorated) ≡ degree_plus (node_degree_of eq.types decoration) (degree_of eq.types t.tree)
    decorated_degree =
        canon_degree eq.types decorated ∙ degree_by_root eq.types decoration t.tree ∙ ap (λ (s : Plain). degree_plus (node_degree_of eq.types decoration) (degree_of eq.types s)) own_root

    roots_of : node_type_of t.tree ≡ labels n
    roots_of = node_type-roots t.tree (subst IsInLabelOrder (sym t.roots) (labels_sorted eq rule row n f i j)) ∙ t.roots

    value_of : (degree_of eq.types t.tree).a ≡ v.a +ℤ node_regularity eq n
    value_of =
        let is = ap (λ (x : Excess). x.a) t.value in
        let reg : node_regularity eq n ≡ labels_regularity eq (root_labels t.tree) = regularity_labels eq n ∙ ap (labels_regularity eq) (sym t.roots) in
        omega (arith, ints)

    some_edge : 0 < edge_count_of t.tree
    some_edge =
        let is = value_of in
        let standard = at.standard in
        edge_at q t.tree m l most t.drawn t.class lack (omega (arith, enough)) (omega (arith, ints))

    decorated_candidate : IsCandidate eq rule (canon decorated)
    decorated_candidate =
        let roots : labels n ≡ node_type_of (canon decorated) = sym (node_type-canon decorated ∙ node_type-with_root decoration t.tree ∙ roots_of) in
        let count : edge_count_of (canon decorated) ≡ edge_count_of t.tree = canon_count decorated ∙ edge_count-with_root decoration t.tree in
        let lacks : planted_lack eq.types (root_labels t.tree) ≤ sum decoration = rw (t.roots, decoration_sum) (omega (arith, enough)) in
        record {
          canonical = canon_canonical decorated;
          types = canon_types eq.types decorated (types-with_root eq.types decoration t.tree decoration_multi (drawn_types eq rule t.tree t.drawn));
          conforming = record {
            root = (row, i, (n, j, roots));
            above = conforms-canon eq.types rule decorated (above-with_root eq.types rule decoration t.tree (drawn_conforms eq rule f t.tree t.drawn));
          };
          unplanted = sym (same_planted eq.types (canon_same decorated)) ∙ lack_unplanted eq.types t.tree decoration lacks;
          edge = omega (arith, count, some_edge);
        }

    decorated_below : degree_order (degree_of eq.types (canon decorated)) degree_zero ≢ Greater
    decorated_below =
        let degree = decorated_degree in
        let size = decoration_size in
        let value = value_of in
        let b = ap (λ (x : Excess). x.b) t.value in
        let standard = at.standard in
        let da = ap (λ (x : Degree). x.a) degree in
        let db = ap (λ (x : Degree). x.b) degree in
        from_parts (degree_of eq.types (canon decorated)) degree_zero record {
          standard = omega (arith, ints);
          tied = λ same. let tied = at.tied (omega (arith, ints)) in omega (arith, ints);
        }

  large_by : (q : Count) (s t : Plain) (m l most : ℕ) → IsDrawn eq rule t → class_of q t ≡ m →
      Lacks q m l → l ≤ most → edge_count_of s ≡ edge_count_of t →
      decoration_sum_of s ≡ most + decoration_sum_of t → IsTooLarge s
  large_by Edges s t m l most d is lack lt count sums = let full = lack.0 in inl (omega (arith, is, count, weight_edges t))
  large_by Decorations s t m l most d is lack lt count sums = inr (omega (arith, is, lack, sums, weight_sum t, drawn_sum eq rule t d))

  pub found_large : (q : Count) (cells : List Cells) → AreExact eq rule q cells → HasLarge eq rule q cells unit → HasTooLargeTree eq rule
  found_large q cells exact h =
      let row = h.0 in
      let i = h.1 in
      let n = h.2.0 in
      let j = h.2.1 in
      let m = h.2.2.0 in
      let v = h.2.2.1 in
      let l = h.2.2.3.0 in
      let lack = h.2.2.3.1 in
      let most = max l (planted_lack eq.types (labels n)) in
      let t = partial_tree eq rule q (suc most_excess) cells (exact_cells eq rule q sub cells exact) (labels n) (labels_fit eq rule row n f i j) m v h.2.2.2 in
      let s = decorated q cells row n i j m l v lack most refl h.2.2.3.2 t in
      let d = decoration q cells row n i j m l v lack most refl h.2.2.3.2 t in
      let count : edge_count_of (canon s) ≡ edge_count_of t.tree = canon_count s ∙ edge_count-with_root d t.tree in
      let sums : decoration_sum_of (canon s) ≡ most + decoration_sum_of t.tree =
      canon_sum s ∙ decoration_sum_by_root d t.tree ∙ ap (λ (x : ℕ). x + decoration_sum_of (with_root zeros t.tree)) (decoration_sum q cells row n i j m l v lack most refl h.2.2.3.2 t)
      ∙ ap (λ (x : Plain). most + decoration_sum_of x) (own_root q cells row n i j m l v lack most refl h.2.2.3.2 t) in
      record {
        tree = canon s;
        candidate = decorated_candidate q cells row n i j m l v lack most refl h.2.2.3.2 t;
        at_most_zero = decorated_below q cells row n i j m l v lack most refl h.2.2.3.2 t;
        large = large_by q (canon s) t.tree m l most t.drawn t.class lack (omega arith) count sums;
      }

-- a node type for which no cell is found
root_more : (regularity : ℤ) (unit : ℕ) (u v : Excess) (l : ℕ) → IsAtMost u v →
    IsAtMost (degree_at_root regularity unit u l) (degree_at_root regularity unit v l)
root_more regularity unit u v l h =
    let standard = h.standard in
    record { standard = omega (arith, ints); tied = λ same. h.tied (omega (arith, ints)) }

root_same : (r s : ℤ) (unit p o l : ℕ) (u : Excess) → r ≡ s → p ≡ o →
    IsAtMost (degree_at_root s unit u (max l o)) no_excess →
    IsAtMost (degree_at_root r unit u (max l p)) no_excess
root_same r s unit p o l u e f h =
    subst (λ (z : ℤ). IsAtMost (degree_at_root z unit u (max l p)) no_excess) (sym e) (subst (λ (x : ℕ). IsAtMost (degree_at_root s unit u (max l x)) no_excess) (sym f) h)

pub node_none : (eq : Equation) (q : Count) (cells : List Cells) (unit : ℕ) (n : NodeType) (line : Line) (regularity : ℤ) (lacking i : ℕ) →
    regularity ≡ node_regularity eq n → lacking ≡ planted_lack eq.types (labels n) →
    pos 0 ≤ℤ (pos most_excess +ℤ node_regularity eq n) → IsLeast (IsPartial q cells (labels n)) line → length line ≤ i → ((k : ℕ) → k < i → (v : Excess) → HasCell line k v → IsLargeAt q regularity unit lacking k v → ⊥) →
    HasLargeNode eq q cells unit n → ⊥
node_none eq q cells unit n line regularity lacking i reg lack low l all none h =
    let m = h.0 in
    let v = h.1 in
    let at = h.3.2 in
    let standard = at.standard in
    let few : v.a ≤ℤ pos most_excess = omega (arith, ints) in
    let u = l.least m v h.2 few in
    let most = max h.3.0 (planted_lack eq.types (labels n)) in
    let own : IsAtMost (degree_at_root (node_regularity eq n) unit u.0 most) no_excess =
    at_most_trans (degree_at_root (node_regularity eq n) unit u.0 most) (degree_at_root (node_regularity eq n) unit v most) no_excess (root_more (node_regularity eq n) unit u.0 v most u.2) at in
    let given = root_same regularity (node_regularity eq n) unit lacking (planted_lack eq.types (labels n)) h.3.0 u.0 reg lack own in
    none m (let lt = cell_below line m u.0 u.1 in omega arith) u.0 u.1 (h.3.0, h.3.1, given)
