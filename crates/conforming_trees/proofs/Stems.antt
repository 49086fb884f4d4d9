-- Stems and wholes: taken apart and put together.
use Rattle.std.proofs.Common.{◌≡◌, ℕ, ◌≤◌, ◌⊎◌, List, [], ◌∷◌, ◌++◌, map, drop, sym, ap, ◌∙◌, subst, inl, inr, arith, Some}
use Rattle.std.proofs.lemmas.List.{append_assoc}
use Rattle.degree_numbers.specs.declared.degree.Degree.{Degree}
use Rattle.degree_numbers.specs.declared.types.Kind.TheVariants.{Noise, Kernel}
use Rattle.degree_numbers.specs.Degree.{degree_plus, degree_zero}
use Rattle.degree_numbers.specs.Types.{kind_of}
use Rattle.degree_numbers.proofs.Orders.{degree_is}
use Rattle.std.proofs.lemmas.Int.{ints}
use Rattle.equations.specs.declared.equation.Equation.{Equation}
use Rattle.equations.specs.Accepted.{IsEquation}
use Rattle.ordered_lists.specs.Members.{IsIn}
use Rattle.ordered_lists.proofs.Subs.{sub_skip, sub_refl}
use Rattle.plain_trees.specs.Plain.{Plain, graft, edge_count_of, decoration_sum_of, root_of}
use Rattle.plain_trees.specs.Building.{zeros}
use Rattle.plain_trees.specs.Canon.{IsCanonical, IsAtMostFirst}
use Rattle.plain_trees.specs.Degree.{HasTypes, IsMultiIndex, IsEdge, degree_of, node_degree_of, edge_degree_of, empty_tree}
use Rattle.normal_rule.specs.declared.rule.EdgeType.{EdgeType}
use Rattle.normal_rule.specs.declared.rule.NodeType.{NodeType}
use Rattle.normal_rule.specs.declared.rule.RuleRow.{RuleRow}
use Rattle.normal_rule.specs.declared.rule.Rule.{Rule}
use Rattle.normal_rule.specs.Order.{pair_of, pairs}
use Rattle.conforming_trees.specs.Conforming.{EdgeLabel, label, labels, node_type_of, Allows, IsAllowedAbove, ConformsAbove, IsRule}
use Rattle.conforming_trees.specs.Budgets.{IsNotAbove, IsUsable, lows_of, edge_low, AreLow, AreBudgets, most_at, IsReserve, with_root, IsShaped, IsStem, IsWhole}
use Rattle.conforming_trees.proofs.Canonical.{node_type-first}
use Rattle.conforming_trees.proofs.Degrees.{not_above_self, not_above_trans, plus_not_above, plus_cancels, plus_zero, zero_plus}
use Rattle.conforming_trees.proofs.Kernels.{row_kind, edge_known, edge_directions}
use Rattle.conforming_trees.proofs.Lows.{lows-append, lows_not_above, edge_low_not_above, node_not_negative}
use Rattle.conforming_trees.proofs.NodeTypes.{node_usable}
use Rattle.conforming_trees.proofs.Roots.{root-with_root, with_own_root, edge_count-with_root, node_type-with_root, canonical-with_root, types-with_root, above-with_root, zeros_multi, degree_by_root, decoration_sum_by_root}

module _ (eq : Equation) (rule : Rule) where
  -- another decoration at the root of a tree of the right shape
  shaped-with_root : (row : RuleRow) (n : List ℕ) (t : Plain) → IsShaped eq rule row t →
      IsMultiIndex eq.types.dims n → decoration_sum_of (with_root n t) ≤ 64 →
      IsShaped eq rule row (with_root n t)
  shaped-with_root row n t h m d = record {
    canonical = canonical-with_root n t h.canonical;
    types = types-with_root eq.types n t m h.types;
    root = (h.root.0, h.root.1, h.root.2 ∙ sym (node_type-with_root n t));
    above = above-with_root eq.types rule n t h.above;
    edges = let e = h.edges in omega (arith, edge_count-with_root n t);
    decorations = d;
  }

  -- a tree without its root decoration has no greater degree
  degree_without : (t : Plain) → IsNotAbove (degree_of eq.types (with_root zeros t)) (degree_of eq.types t)
  degree_without t =
      let bare_tree = with_root zeros t in
      let whole : degree_plus (node_degree_of eq.types (root_of t)) (degree_of eq.types bare_tree) ≡ degree_of eq.types t = sym (degree_by_root eq.types (root_of t) t) ∙ ap (degree_of eq.types) (with_own_root t) in
      subst (λ (x : Degree). IsNotAbove (degree_of eq.types bare_tree) x) whole
      (subst (λ (x : Degree). IsNotAbove x (degree_plus (node_degree_of eq.types (root_of t)) (degree_of eq.types bare_tree))) (zero_plus (degree_of eq.types bare_tree))
      (plus_not_above degree_zero (node_degree_of eq.types (root_of t)) (degree_of eq.types bare_tree) (degree_of eq.types bare_tree) (node_not_negative eq.types (root_of t)) (not_above_self (degree_of eq.types bare_tree))))

  decorations_without : (t : Plain) → decoration_sum_of (with_root zeros t) ≤ decoration_sum_of t
  decorations_without t = omega (arith, decoration_sum_by_root (root_of t) t, ap decoration_sum_of (with_own_root t))

  pub whole_is_stem_with_root : (lows mosts : List Degree) (row : RuleRow) (t : Plain) →
      IsWhole eq rule mosts row t → IsStem eq rule lows mosts row (with_root zeros t)
  whole_is_stem_with_root lows mosts row t h =
      let s = h.shaped in
      let without = with_root zeros t in record {
        shaped = shaped-with_root row zeros t s (zeros_multi eq.types.dims) (let d = s.decorations in omega (arith, decorations_without t));
        undecorated = root-with_root zeros t;
        node = s.root.0;
        front = [];
        node_of_row = s.root.1;
        usable = subst IsUsable (sym s.root.2) (node_usable t s.edges s.decorations);
        ends = s.root.2 ∙ sym (node_type-with_root zeros t);
        room = subst (λ (x : Degree). IsNotAbove x (most_at mosts row.kernel.0)) (sym (plus_zero (degree_of eq.types without)))
            (not_above_trans (degree_of eq.types without) (degree_of eq.types t) (most_at mosts row.kernel.0) (degree_without t) h.room);
      }

  pub stem_with_root_is_whole : (lows mosts : List Degree) (row : RuleRow) (n : List ℕ) (t : Plain) →
      IsStem eq rule lows mosts row t → IsMultiIndex eq.types.dims n →
      decoration_sum_of (with_root n t) ≤ 64 →
      IsNotAbove (degree_of eq.types (with_root n t)) (most_at mosts row.kernel.0) → IsWhole eq rule mosts row (with_root n t)
  stem_with_root_is_whole lows mosts row n t h m d room = record { shaped = shaped-with_root row n t h.shaped m d; room = room }

  -- a node type of the row without its first edge type is one of the row
  without_first : (row : RuleRow) (edges : List EdgeType) (e : EdgeLabel) (es : List EdgeLabel) → IsRule eq rule → IsIn row rule.rows → IsIn record { edges = edges } row.nodes → map label edges ≡ e ∷ es →
      (n : NodeType) × IsIn n row.nodes × (labels n ≡ es)
  without_first row [] e es r i h same = absurd cc
  without_first row (f ∷ fs) e es r i h same =
      (record { edges = fs }, (r.normal row i).closed record { edges = f ∷ fs } record { edges = fs } h (sub_skip (pairs record { edges = fs }) (pairs record { edges = fs }) (pair_of f) (sub_refl (pairs record { edges = fs }))), ap (drop 1) same)

  allows_rest : (row : RuleRow) (k : ℕ) (p : List ℕ) (c t : Plain) → IsRule eq rule →
      IsIn row rule.rows → IsCanonical (graft k p c t) → Allows row (graft k p c t) → Allows row t
  allows_rest row k p c t r i h a = without_first row a.0.edges (k, p) (node_type_of t) r i a.1 (a.2 ∙ node_type-first k p c t h)

  pub extension_is_allowed : (lows mosts : List Degree) (row : RuleRow) (k : ℕ) (p : List ℕ) (c t : Plain) → IsStem eq rule lows mosts row (graft k p c t) →
      (n : NodeType) × IsIn n row.nodes × (labels n ≡ (k, p) ∷ node_type_of t) × IsUsable (labels n)
  extension_is_allowed lows mosts row k p c t h =
      let s = h.shaped in (s.root.0, s.root.1, s.root.2 ∙ node_type-first k p c t s.canonical, subst IsUsable (sym s.root.2) (node_usable (graft k p c t) s.edges s.decorations))

  shaped_rest : (row : RuleRow) (k : ℕ) (p : List ℕ) (c t : Plain) → IsRule eq rule →
      IsIn row rule.rows → IsShaped eq rule row (graft k p c t) → IsShaped eq rule row t
  shaped_rest row k p c t r i s = record {
    canonical = s.canonical.1;
    types = s.types.2;
    root = allows_rest row k p c t r i s.canonical s.root;
    above = s.above.2;
    edges = let e = s.edges in omega (arith, e);
    decorations = let d = s.decorations in omega (arith, d);
  }

  -- the first edge moves to what edges in front can bring
  rest_room : (d x y f most : Degree) → IsNotAbove x y →
      IsNotAbove (degree_plus (degree_plus y d) f) most →
      IsNotAbove (degree_plus d (degree_plus f (degree_plus x degree_zero))) most
  rest_room d x y f most h k =
      not_above_trans (degree_plus d (degree_plus f (degree_plus x degree_zero))) (degree_plus (degree_plus y d) f) most
      (subst (λ (z : Degree). IsNotAbove z (degree_plus (degree_plus y d) f)) regrouped (plus_not_above (degree_plus x d) (degree_plus y d) f f (plus_not_above x y d d h (not_above_self d)) (not_above_self f))) k
    where
      regrouped : degree_plus (degree_plus x d) f ≡ degree_plus d (degree_plus f (degree_plus x degree_zero))
      regrouped = degree_is (degree_plus (degree_plus x d) f) (degree_plus d (degree_plus f (degree_plus x degree_zero))) (omega (arith, ints)) (omega (arith, ints))

  pub rest_is_stem : (lows mosts : List Degree) (row : RuleRow) (k : ℕ) (p : List ℕ) (c t : Plain) →
      IsRule eq rule → AreLow eq rule lows → IsIn row rule.rows →
      IsStem eq rule lows mosts row (graft k p c t) →
      IsStem eq rule lows mosts row t
  rest_is_stem lows mosts row k p c t r l i h =
      let s = h.shaped in
      let e = s.edges in
      let d = s.decorations in
      let first = edge_low_not_above eq rule lows l k p c s.above.0 s.above.1 (omega (arith, e)) (omega (arith, d)) in record {
        shaped = shaped_rest row k p c t r i s;
        undecorated = h.undecorated;
        node = h.node;
        front = h.front ++ (k, p) ∷ [];
        node_of_row = h.node_of_row;
        usable = h.usable;
        ends = h.ends ∙ ap (λ (es : List EdgeLabel). h.front ++ es) (node_type-first k p c t s.canonical) ∙ sym (append_assoc h.front ((k, p) ∷ []) (node_type_of t));
        room = subst (λ (x : Degree). IsNotAbove (degree_plus (degree_of eq.types t) x) (most_at mosts row.kernel.0)) (sym (lows-append eq.types lows h.front ((k, p) ∷ [])))
            (rest_room (degree_of eq.types t) (edge_low eq.types lows (k, p)) (degree_plus (edge_degree_of eq.types k p) (degree_of eq.types c)) (lows_of eq.types lows h.front) (most_at mosts row.kernel.0) first h.room);
      }

  -- what the others leave for the child
  child_room : (e c d x f most rest : Degree) → IsNotAbove x d →
      IsNotAbove (degree_plus (degree_plus (degree_plus e c) d) f) most →
      IsNotAbove most (degree_plus (degree_plus e rest) (degree_plus f x)) → IsNotAbove c rest
  child_room e c d x f most rest h k m =
      plus_cancels c rest (degree_plus (degree_plus e d) f) (degree_plus (degree_plus e x) f)
      (not_above_trans (degree_plus c (degree_plus (degree_plus e d) f)) most (degree_plus rest (degree_plus (degree_plus e x) f)) (subst (λ (z : Degree). IsNotAbove z most) before k)
      (subst (IsNotAbove most) after m))
      (plus_not_above (degree_plus e x) (degree_plus e d) f f (plus_not_above e e x d (not_above_self e) h) (not_above_self f))
    where
      before : degree_plus (degree_plus (degree_plus e c) d) f ≡ degree_plus c (degree_plus (degree_plus e d) f)
      before = degree_is (degree_plus (degree_plus (degree_plus e c) d) f) (degree_plus c (degree_plus (degree_plus e d) f)) (omega (arith, ints)) (omega (arith, ints))

      after : degree_plus (degree_plus e rest) (degree_plus f x) ≡ degree_plus rest (degree_plus (degree_plus e x) f)
      after = degree_is (degree_plus (degree_plus e rest) (degree_plus f x)) (degree_plus rest (degree_plus (degree_plus e x) f)) (omega (arith, ints)) (omega (arith, ints))

  -- what stands above an edge of a kernel of a stem
  pub child_is_whole : (lows mosts : List Degree) (row : RuleRow) (k : ℕ) (p : List ℕ) (c t : Plain) →
      AreLow eq rule lows → AreBudgets eq rule lows mosts → IsIn row rule.rows →
      IsStem eq rule lows mosts row (graft k p c t) → kind_of eq.types k ≡ Some Kernel → (r : RuleRow) × IsIn r rule.rows × (r.kernel.0 ≡ k) × IsWhole eq rule mosts r c
  child_is_whole lows mosts row k p c t l b i h kernel =
      let s = h.shaped in
      let e = s.edges in
      let d = s.decorations in
      elim s.above.0 [
        | inl noise ↦ let differ = sym kernel ∙ noise.0 in absurd cc
        | inr above ↦
            let ends : labels h.node ≡ h.front ++ (k, p) ∷ node_type_of t = h.ends ∙ ap (λ (es : List EdgeLabel). h.front ++ es) (node_type-first k p c t s.canonical) in
            let left = b.children row h.node h.front (k, p) (node_type_of t) i h.node_of_row h.usable ends kernel in
            let rest = lows_not_above eq rule lows l t s.above.2 (omega (arith, e)) (omega (arith, d)) in
            let split : IsNotAbove (most_at mosts row.kernel.0) (degree_plus (degree_plus (edge_degree_of eq.types k p) (most_at mosts k)) (degree_plus (lows_of eq.types lows h.front) (lows_of eq.types lows (node_type_of t)))) =
            subst (λ (x : Degree). IsNotAbove (most_at mosts row.kernel.0) (degree_plus (degree_plus (edge_degree_of eq.types k p) (most_at mosts k)) x)) (lows-append eq.types lows h.front (node_type_of t)) left in
            let room = child_room (edge_degree_of eq.types k p) (degree_of eq.types c) (degree_of eq.types t) (lows_of eq.types lows (node_type_of t)) (lows_of eq.types lows h.front) (most_at mosts row.kernel.0) (most_at mosts k) rest h.room split in (
              above.0,
              above.1,
              above.2,
              record {
                shaped = record { canonical = s.canonical.0; types = s.types.1; root = above.3; above = s.above.1; edges = omega (arith, e); decorations = omega (arith, d) };
                room = subst (λ (x : ℕ). IsNotAbove (degree_of eq.types c) (most_at mosts x)) (sym above.2) room;
              },
            )
      ]

  -- what may stand above an edge of type k
  abbrev pub IsChild : List Degree → ℕ → Plain → Type 0
  IsChild mosts k c = ((kind_of eq.types k ≡ Some Noise) × (c ≡ empty_tree)) ⊎ ((r : RuleRow) × IsIn r rule.rows × (r.kernel.0 ≡ k) × IsWhole eq rule mosts r c)

  child_edge : (mosts : List Degree) (row : RuleRow) (n : NodeType) (k : ℕ) (p : List ℕ) (es : List EdgeLabel) (c : Plain) →
      IsEquation eq → IsRule eq rule → IsIn row rule.rows → IsIn n row.nodes →
      labels n ≡ (k, p) ∷ es →
      IsChild mosts k c → IsEdge eq.types k p c
  child_edge mosts row n k p es c q r i m same child = record {
    known = edge_known eq rule row n k p es r i m same;
    decoration = edge_directions eq rule row n k p es r i m same;
    noise = λ noise.
        elim child [
          | inl h ↦ h.1
          | inr h ↦ let kernel : kind_of eq.types k ≡ Some Kernel = subst (λ (x : ℕ). kind_of eq.types x ≡ Some Kernel) h.2 (row_kind eq rule h.0 q r.rows h.1) in let differ = sym kernel ∙ noise in absurd cc
        ];
  }

  child_canonical : (mosts : List Degree) (k : ℕ) (c : Plain) → IsChild mosts k c → IsCanonical c
  child_canonical mosts k c (inl h) = subst IsCanonical (sym h.1) tt
  child_canonical mosts k c (inr h) = h.3.shaped.canonical

  child_types : (mosts : List Degree) (k : ℕ) (c : Plain) → IsChild mosts k c → HasTypes eq.types c
  child_types mosts k c (inl h) = subst (HasTypes eq.types) (sym h.1) (zeros_multi eq.types.dims)
  child_types mosts k c (inr h) = h.3.shaped.types

  child_allowed : (mosts : List Degree) (k : ℕ) (c : Plain) → IsChild mosts k c → IsAllowedAbove eq.types rule k c
  child_allowed mosts k c (inl h) = inl (h.0, ap node_type_of h.1)
  child_allowed mosts k c (inr h) = inr (h.0, h.1, h.2, h.3.shaped.root)

  child_above : (mosts : List Degree) (k : ℕ) (c : Plain) → IsChild mosts k c → ConformsAbove eq.types rule c
  child_above mosts k c (inl h) = subst (ConformsAbove eq.types rule) (sym h.1) tt
  child_above mosts k c (inr h) = h.3.shaped.above

  -- what edges in front bring is at least the reserve, and some bring just that
  pub reserve_room : (lows mosts : List Degree) (row : RuleRow) (t : Plain) (r : Degree) →
      IsReserve eq lows row (node_type_of t) r → IsStem eq rule lows mosts row t →
      IsNotAbove (degree_plus (degree_of eq.types t) r) (most_at mosts row.kernel.0)
  reserve_room lows mosts row t r h s =
      not_above_trans (degree_plus (degree_of eq.types t) r) (degree_plus (degree_of eq.types t) (lows_of eq.types lows s.front)) (most_at mosts row.kernel.0)
      (plus_not_above (degree_of eq.types t) (degree_of eq.types t) r (lows_of eq.types lows s.front) (not_above_self (degree_of eq.types t)) (h.least s.node s.front s.node_of_row s.usable s.ends)) s.room

  pub stem_by_reserve : (lows mosts : List Degree) (row : RuleRow) (t : Plain) (r : Degree) →
      IsShaped eq rule row t → root_of t ≡ zeros → IsReserve eq lows row (node_type_of t) r →
      IsNotAbove (degree_plus (degree_of eq.types t) r) (most_at mosts row.kernel.0) → IsStem eq rule lows mosts row t
  stem_by_reserve lows mosts row t r s z h room = record {
    shaped = s;
    undecorated = z;
    node = h.node;
    front = h.front;
    node_of_row = h.node_of_row;
    usable = h.usable;
    ends = h.ends;
    room = subst (λ (x : Degree). IsNotAbove (degree_plus (degree_of eq.types t) x) (most_at mosts row.kernel.0)) h.is room;
  }

  -- one more edge in front
  pub stem_grown : (lows mosts : List Degree) (row : RuleRow) (n : NodeType) (k : ℕ) (p : List ℕ) (c t : Plain) (r : Degree) →
      IsEquation eq → IsRule eq rule → IsIn row rule.rows → IsStem eq rule lows mosts row t →
      IsIn n row.nodes → labels n ≡ (k, p) ∷ node_type_of t → IsChild mosts k c → IsAtMostFirst record { kind = k; p = p; child = c } t → edge_count_of (graft k p c t) ≤ 24 → decoration_sum_of (graft k p c t) ≤ 64 →
      IsReserve eq lows row (labels n) r → IsNotAbove (degree_plus (degree_of eq.types (graft k p c t)) r) (most_at mosts row.kernel.0) → IsStem eq rule lows mosts row (graft k p c t)
  stem_grown lows mosts row n k p c t r q u i h m same child first e d reserve room =
      let s = h.shaped in
      let canonical : IsCanonical (graft k p c t) = (child_canonical mosts k c child, s.canonical, first) in
      let type : labels n ≡ node_type_of (graft k p c t) = same ∙ sym (node_type-first k p c t canonical) in
      stem_by_reserve lows mosts row (graft k p c t) r
      record {
        canonical = canonical;
        types = (child_edge mosts row n k p (node_type_of t) c q u i m same child, child_types mosts k c child, s.types);
        root = (n, m, type);
        above = (child_allowed mosts k c child, child_above mosts k c child, s.above);
        edges = e;
        decorations = d;
      }
      h.undecorated (subst (λ (es : List EdgeLabel). IsReserve eq lows row es r) type reserve) room
