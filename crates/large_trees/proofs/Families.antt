-- Sums of cells are trees, and the lines of a round have the trees that are one edge higher.
use Rattle.std.proofs.Common.{◌≡◌, ℕ, zero, suc, ◌+◌, ◌-◌, ◌<◌, ◌≤◌, min, pos, ◌≤ℤ◌, List, [], ◌∷◌, length, map, refl, sym, ap, ◌∙◌, subst, arith, inl, inr, Some}
use Rattle.std.specs.List.{All}
use Rattle.std.proofs.lemmas.Int.{ints}
use Rattle.std.proofs.lemmas.List.Elements.{All-tail}
use Rattle.degree_numbers.specs.Types.{kind_of}
use Rattle.degree_numbers.specs.declared.types.Kind.TheVariants.{Noise, Kernel}
use Rattle.equations.specs.declared.equation.Equation.{Equation}
use Rattle.equations.specs.Accepted.{IsEquation}
use Rattle.ordered_lists.specs.Members.{IsIn}
use Rattle.ordered_lists.proofs.Members.{all_at}
use Rattle.plain_trees.specs.Plain.{Plain, bare, graft}
use Rattle.plain_trees.specs.Degree.{IsMultiIndex, empty_tree}
use Rattle.normal_rule.specs.declared.rule.EdgeType.{EdgeType}
use Rattle.normal_rule.specs.declared.rule.NodeType.{NodeType}
use Rattle.normal_rule.specs.declared.rule.RuleRow.{RuleRow}
use Rattle.normal_rule.specs.declared.rule.Rule.{Rule}
use Rattle.normal_rule.specs.Regularity.{IsSubcritical}
use Rattle.normal_rule.specs.Text.{IsKnownNode}
use Rattle.conforming_trees.specs.Conforming.{EdgeLabel, label, labels, IsRule}
use Rattle.conforming_trees.proofs.Kernels.{row_kind}
use Rattle.large_trees.specs.declared.count.Count.{Count}
use Rattle.large_trees.specs.declared.excess.Excess.{Excess}
use Rattle.large_trees.specs.declared.line.Line.{Line as Cells}
use Rattle.large_trees.specs.Classes.{most_of, weight_at, class_of}
use Rattle.large_trees.specs.Lines.{IsAtMost, IsLeast, most_excess, excess_plus, no_excess}
use Rattle.large_trees.specs.Cells.{root_labels, IsDrawn, planted_excess, IsAbove, HasPlanted, AreExact, line_at}
use Rattle.large_trees.specs.Sums.{IsPartial, gap_of, HasNode, HasNoise, HasExcess, IsRound}
use Rattle.large_trees.proofs.Heights.{height}
use Rattle.large_trees.proofs.LineLaws.{at_most_self, at_most_plus, least_same}
use Rattle.large_trees.proofs.Trees.{tree_excess, graft_excess, bare_excess, node_excess, gap_above, class_graft, noise_above, above_height, excess_height}

-- such a tree above k of a height below r
pub record HasLow (eq : Equation) (rule : Rule) (q : Count) (r : ℕ) (k : ℕ) (m : ℕ) (v : Excess) : Type 0 where
  pub child : Plain
  pub above : IsAbove eq rule k child
  pub low : height child < r
  pub class : class_of q child ≡ m
  pub value : planted_excess eq k child ≡ v

-- the lines have the least of the trees of a height below r
abbrev pub AreCells : Equation → Rule → Count → ℕ → List Cells → Type 0
AreCells eq rule q r cells = (k : ℕ) → k < length eq.types.list → IsLeast (HasLow eq rule q r k) (line_at cells k)

-- the edge types are of the types of the equation
abbrev pub AreFit : Equation → List EdgeLabel → Type 0
AreFit eq [] = Unit {0}
AreFit eq (e ∷ es) = (e.0 < length eq.types.list) × IsMultiIndex eq.types.dims e.1 × AreFit eq es

edges_fit : (eq : Equation) (es : List EdgeType) → All (λ e. e.kind.0 < length eq.types.list) es →
    All (λ e. IsMultiIndex eq.types.dims e.p.entries) es → AreFit eq (map label es)
edges_fit eq [] h k = tt
edges_fit eq (e ∷ es) h k =
    (h 0 e (omega arith), k 0 e (omega arith), edges_fit eq es (All-tail (λ e. e.kind.0 < length eq.types.list) e es h) (All-tail (λ e. IsMultiIndex eq.types.dims e.p.entries) e es k))

pub labels_fit : (eq : Equation) (rule : Rule) (row : RuleRow) (n : NodeType) → IsRule eq rule → IsIn row rule.rows → IsIn n row.nodes → AreFit eq (labels n)
labels_fit eq rule row n h r m =
    edges_fit eq n.edges (all_at (IsKnownNode eq.types) row.nodes n (all_at (λ (w : RuleRow). All (IsKnownNode eq.types) w.nodes) rule.rows row h.known r) m)
    (all_at (λ (x : NodeType). All (λ e. IsMultiIndex eq.types.dims e.p.entries) x.edges) row.nodes n (all_at (λ (w : RuleRow). All (λ x. All (λ e. IsMultiIndex eq.types.dims e.p.entries) x.edges) w.nodes) rule.rows row h.directions r) m)

-- a tree with these edge types at the root
pub record IsTree (eq : Equation) (rule : Rule) (q : Count) (r : ℕ) (es : List EdgeLabel) (m : ℕ) (v : Excess) : Type 0 where
  pub tree : Plain
  pub drawn : IsDrawn eq rule tree
  pub roots : root_labels tree ≡ es
  pub low : height tree ≤ r
  pub class : class_of q tree ≡ m
  pub value : tree_excess eq tree ≡ v

class_empty : (q : Count) → class_of q empty_tree ≡ 0
class_empty q = omega arith

module _ (eq : Equation) (rule : Rule) (q : Count) where
  pub partial_tree : (r : ℕ) (cells : List Cells) → AreCells eq rule q r cells →
      (es : List EdgeLabel) → AreFit eq es → (m : ℕ) (v : Excess) → IsPartial q cells es m v →
      IsTree eq rule q r es m v
  partial_tree r cells h [] f m v p = record {
    tree = empty_tree;
    drawn = refl;
    roots = refl;
    low = omega arith;
    class = class_empty q ∙ sym p.0;
    value = bare_excess eq ∙ sym p.1;
  }
  partial_tree r cells h (e ∷ es) f m v p =
      let t = partial_tree r cells h es f.2 p.0 p.1 p.2 in
      let c = ((h e.0 f.0).attained p.3.0 p.3.1 p.3.2).0 in
      let low = c.low in
      let rest = t.low in
      let classes : weight_at q e.1 + class_of q t.tree + class_of q c.child ≡ weight_at q e.1 + p.0 + p.3.0 = rw (t.class, c.class) refl in
      record {
        tree = graft e.0 e.1 c.child t.tree;
        drawn = (record { known = f.0; decoration = f.1; noise = c.above.noise }, c.above.allowed, c.above.drawn, t.drawn);
        roots = ap (λ (fs : List EdgeLabel). e ∷ fs) t.roots;
        low = omega arith;
        class = class_graft q e.0 e.1 c.child t.tree ∙ ap (min (most_of q)) classes ∙ sym p.3.3;
        value = graft_excess eq e.0 e.1 c.child t.tree ∙ ap (λ (x : Excess). excess_plus x (planted_excess eq e.0 c.child)) t.value ∙ ap (excess_plus p.1) c.value ∙ sym p.3.4;
      }

  pub tree_partial : IsSubcritical eq rule → (r : ℕ) (cells : List Cells) →
      AreCells eq rule q r cells → (t : Plain) → IsDrawn eq rule t → height t ≤ r →
      (tree_excess eq t).a ≤ℤ pos most_excess →
      (u : Excess) × IsPartial q cells (root_labels t) (class_of q t) u × IsAtMost u (tree_excess eq t)
  tree_partial sub r cells h (bare n) d low few =
      let value : tree_excess eq (bare n) ≡ no_excess = ap (λ (m : List ℕ). tree_excess eq (bare m)) d ∙ bare_excess eq in
      (no_excess, (omega arith, refl), subst (IsAtMost no_excess) (sym value) (at_most_self no_excess))
  tree_partial sub r cells h (graft k p c t) d low few =
      let child = above_height eq rule sub k c d.0.known d.0.noise d.1 (excess_height eq rule sub c d.2) in
      let rest = excess_height eq rule sub t d.3 in
      let is = graft_excess eq k p c t in
      let sum = ap (λ (x : Excess). x.a) is in
      let c0 = child.0 in
      let t0 = rest.0 in
      let x = tree_partial sub r cells h t d.3 (omega arith) (omega (arith, ints)) in
      let y = (h k d.0.known).least (class_of q c) (planted_excess eq k c)
      record { child = c; above = record { drawn = d.2; allowed = d.1; noise = d.0.noise }; low = omega arith; class = refl; value = refl } (omega (arith, ints)) in (
        excess_plus x.0 y.0,
        (class_of q t, x.0, x.1, (class_of q c, y.0, y.1, class_graft q k p c t, refl {a = excess_plus x.0 y.0})),
        subst (IsAtMost (excess_plus x.0 y.0)) (sym is) (at_most_plus x.0 y.0 (tree_excess eq t) (planted_excess eq k c) x.2 y.2),
      )

  module _ (e : IsEquation eq) (f : IsRule eq rule) (sub : IsSubcritical eq rule) (r : ℕ) (cells : List Cells) (h : AreCells eq rule q r cells) (k : ℕ) where
    noise_low : (m : ℕ) (v : Excess) → HasNoise eq k m v → HasLow eq rule q (suc r) k m v
    noise_low m v p = record {
      child = empty_tree;
      above = record { drawn = refl; allowed = inl (p.0, refl); noise = λ z. refl };
      low = omega arith;
      class = class_empty q ∙ sym p.1;
      value = noise_above eq rule sub k empty_tree p.0 refl ∙ sym p.2;
    }

    row_low : (row : RuleRow) (n : NodeType) (m : ℕ) (v : Excess) → IsIn row rule.rows → row.kernel.0 ≡ k → IsIn n row.nodes → HasNode eq q cells k n m v → HasLow eq rule q (suc r) k m v
    row_low row n m v i same j p =
        let t = partial_tree r cells h (labels n) (labels_fit eq rule row n f i j) m p.0 p.1 in
        let kind : kind_of eq.types k ≡ Some Kernel = subst (λ (x : ℕ). kind_of eq.types x ≡ Some Kernel) same (row_kind eq rule row e f.rows i) in
        let low = t.low in
        record {
          child = t.tree;
          above = record { drawn = t.drawn; allowed = inr (row, i, same, (n, j, sym t.roots)); noise = λ z. absurd cc };
          low = omega arith;
          class = t.class;
          value = node_excess eq k n t.tree (sym t.roots) ∙ ap (excess_plus (gap_of eq k n)) t.value ∙ sym p.2;
        }

    low_noise : (m : ℕ) (v : Excess) (p : HasLow eq rule q (suc r) k m v) → kind_of eq.types k ≡ Some Noise → (u : Excess) × HasExcess eq rule q cells k m u × IsAtMost u v
    low_noise m v p z =
        let empty = p.above.noise z in
        (v, inl (z, sym p.class ∙ ap (class_of q) empty ∙ class_empty q, sym p.value ∙ noise_above eq rule sub k p.child z empty), at_most_self v)

    low_row : (m : ℕ) (v : Excess) (p : HasLow eq rule q (suc r) k m v) (row : RuleRow) (n : NodeType) → v.a ≤ℤ pos most_excess → IsIn row rule.rows → row.kernel.0 ≡ k → IsIn n row.nodes → labels n ≡ root_labels p.child →
        (u : Excess) × HasExcess eq rule q cells k m u × IsAtMost u v
    low_row m v p row n few i same j l =
        let gap : pos 1 ≤ℤ (gap_of eq k n).a = subst (λ (x : ℕ). pos 1 ≤ℤ (gap_of eq x n).a) same (gap_above eq rule row n sub i j) in
        let is = node_excess eq k n p.child l in
        let sum = ap (λ (x : Excess). x.a) (sym p.value ∙ is) in
        let low = p.low in
        let u = tree_partial sub r cells h p.child p.above.drawn (omega arith) (omega (arith, ints)) in
        let first : IsPartial q cells (labels n) (class_of q p.child) u.0 = subst (λ (es : List EdgeLabel). IsPartial q cells es (class_of q p.child) u.0) (sym l) u.1 in
        let partial : IsPartial q cells (labels n) m u.0 = subst (λ (x : ℕ). IsPartial q cells (labels n) x u.0) p.class first in (
          excess_plus (gap_of eq k n) u.0,
          inr (row, i, (same, (n, j, (u.0, partial, refl)))),
          subst (IsAtMost (excess_plus (gap_of eq k n) u.0)) (sym is ∙ p.value) (at_most_plus (gap_of eq k n) u.0 (gap_of eq k n) (tree_excess eq p.child) (at_most_self (gap_of eq k n)) u.2),
        )

  pub round_cells : IsEquation eq → IsRule eq rule → IsSubcritical eq rule →
      (r : ℕ) (cells next : List Cells) → AreCells eq rule q r cells →
      IsRound eq rule q cells next → AreCells eq rule q (suc r) next
  round_cells e f sub r cells next h round k lt =
      least_same (HasExcess eq rule q cells k) (HasLow eq rule q (suc r) k) (line_at next k)
      (λ m v p few. elim p [ inl z ↦ noise_low e f sub r cells h k m v z | inr w ↦ row_low e f sub r cells h k w.0 w.2.1.0 m v w.1 w.2.0 w.2.1.1 w.2.1.2 ])
      (λ m v p few. elim p.above.allowed [
        | inl z ↦ low_noise e f sub r cells h k m v p z.0
        | inr w ↦ low_row e f sub r cells h k m v p w.0 w.3.0 few w.1 w.2 w.3.1 w.3.2
      ])
      (round k lt)

  -- a round that changes nothing
  pub fixed_cells : IsEquation eq → IsRule eq rule → IsSubcritical eq rule →
      (n r : ℕ) (cells : List Cells) → AreCells eq rule q r cells → IsRound eq rule q cells cells →
      AreCells eq rule q (n + r) cells
  fixed_cells e f sub zero r cells h round = let same : 0 + r ≡ r = omega arith in rw same h
  fixed_cells e f sub (suc n) r cells h round =
      let same : suc n + r ≡ suc (n + r) = omega arith in rw same (round_cells e f sub (n + r) cells cells (fixed_cells e f sub n r cells h round) round)

  -- trees that are as high have too great an excess
  pub cells_exact : IsSubcritical eq rule → (cells : List Cells) → AreCells eq rule q (suc most_excess) cells → AreExact eq rule q cells
  cells_exact sub cells h k lt =
      least_same (HasLow eq rule q (suc most_excess) k) (HasPlanted eq rule q k) (line_at cells k) (λ m v p few. record { child = p.child; above = p.above; class = p.class; value = p.value })
      (λ m v p few.
      let high = above_height eq rule sub k p.child lt p.above.noise p.above.allowed (excess_height eq rule sub p.child p.above.drawn) in
      let most = high.1 in
      let is = ap (λ (x : Excess). x.a) p.value in
      (v, record { child = p.child; above = p.above; low = omega (arith, ints); class = p.class; value = p.value }, at_most_self v))
      (h k lt)

  pub exact_cells : IsSubcritical eq rule → (cells : List Cells) → AreExact eq rule q cells → AreCells eq rule q (suc most_excess) cells
  exact_cells sub cells h k lt =
      least_same (HasPlanted eq rule q k) (HasLow eq rule q (suc most_excess) k) (line_at cells k)
      (λ m v p few.
      let high = above_height eq rule sub k p.child lt p.above.noise p.above.allowed (excess_height eq rule sub p.child p.above.drawn) in
      let most = high.1 in
      let is = ap (λ (x : Excess). x.a) p.value in
      record { child = p.child; above = p.above; low = omega (arith, ints); class = p.class; value = p.value })
      (λ m v p few. (v, record { child = p.child; above = p.above; class = p.class; value = p.value }, at_most_self v))
      (h k lt)

  pub no_cells : AreCells eq rule q 0 []
  no_cells k lt = record {
    attained = λ m v h. absurd cc;
    least = λ m v p few. let low = p.low in absurd (omega arith);
  }

  -- the rounds may stop where nothing changes
  pub stopped_exact : IsEquation eq → IsRule eq rule → IsSubcritical eq rule →
      (r : ℕ) (cells next : List Cells) → r < suc most_excess → AreCells eq rule q r cells →
      IsRound eq rule q cells next → cells ≡ next → AreExact eq rule q next
  stopped_exact e f sub r cells next few h round same =
      let fixed : IsRound eq rule q cells cells = subst (IsRound eq rule q cells) (sym same) round in
      let all = fixed_cells e f sub (suc most_excess - r) r cells h fixed in
      let sum : (suc most_excess - r) + r ≡ suc most_excess = omega arith in
      subst (AreExact eq rule q) same (cells_exact sub cells (subst (λ (n : ℕ). AreCells eq rule q n cells) sum all))
