-- Drawn trees conform, and each canonical tree that conforms is drawn once its nodes are left
-- undecorated.
use Rattle.std.proofs.Common.{◌≡◌, ℕ, zero, suc, ◌+◌, ◌<◌, false, is_lt, get_or, List, [], ◌∷◌, length, map, sum, refl, sym, ap, ◌∙◌, subst, inl, inr, arith}
use Rattle.equations.specs.declared.equation.Equation.{Equation}
use Rattle.equations.specs.EdgeTypes.{edge_type_order, IsInOrder}
use Rattle.equations.proofs.EdgeTypeLaws.{edge_type_order_total}
use Rattle.normal_rule.specs.Order.{pair_of}
use Rattle.ordered_lists.specs.Members.{IsIn}
use Rattle.ordered_lists.proofs.Unique.{sorted-rest}
use Rattle.plain_trees.specs.Plain.{Plain, bare, graft, root_of, edge_count_of, decoration_sum_of}
use Rattle.plain_trees.specs.Building.{zeros}
use Rattle.plain_trees.specs.Canon.{IsCanonical}
use Rattle.plain_trees.specs.Degree.{IsMultiIndex, HasTypes}
use Rattle.normal_rule.specs.declared.rule.EdgeType.{EdgeType}
use Rattle.normal_rule.specs.declared.rule.NodeType.{NodeType}
use Rattle.normal_rule.specs.declared.rule.RuleRow.{RuleRow}
use Rattle.normal_rule.specs.declared.rule.Rule.{Rule}
use Rattle.conforming_trees.specs.Conforming.{EdgeLabel, edge_label_order, label, labels, put_label, node_type_of, IsInRule, IsRule, ConformsAbove}
use Rattle.conforming_trees.proofs.Labels.{IsInLabelOrder, edge_label_total, put-sorted, same_labels, count-put}
use Rattle.conforming_trees.proofs.Canonical.{node_type-first}
use Rattle.conforming_trees.proofs.Roots.{zeros_multi}
use Rattle.large_trees.specs.declared.count.Count.{Count}
use Rattle.large_trees.specs.declared.count.Count.TheVariants.{Edges, Decorations}
use Rattle.large_trees.specs.Classes.{weight_of}
use Rattle.large_trees.specs.Cells.{root_labels, IsDrawn}

-- edge types in order are put in front
put_front : (e : EdgeLabel) (es : List EdgeLabel) → IsInLabelOrder (e ∷ es) → put_label e es ≡ e ∷ es
put_front e es h =
    let rest : IsInLabelOrder es = sorted-rest edge_label_order edge_label_total e es h in
    same_labels (put_label e es) (e ∷ es) (put-sorted e es rest) h (λ z. count-put z e es)

pub node_type-roots : (t : Plain) → IsInLabelOrder (root_labels t) → node_type_of t ≡ root_labels t
node_type-roots (bare n) h = refl
node_type-roots (graft k p c t) h =
    let rest = node_type-roots t (sorted-rest edge_label_order edge_label_total (k, p) (root_labels t) h) in
    ap (put_label (k, p)) rest ∙ put_front (k, p) (root_labels t) h

pub roots-canonical : (t : Plain) → IsCanonical t → node_type_of t ≡ root_labels t
roots-canonical (bare n) h = refl
roots-canonical (graft k p c t) h = node_type-first k p c t h ∙ ap (λ (es : List EdgeLabel). (k, p) ∷ es) (roots-canonical t h.1)

sorted_at : (es : List EdgeType) → IsInOrder (map pair_of es) → (k : ℕ) (d : EdgeLabel) →
    k + 1 < length (map label es) →
    is_lt (edge_label_order (get_or (map label es) (k + 1) d) (get_or (map label es) k d)) ≡ false
sorted_at [] h k d lt = absurd (omega (arith, lt))
sorted_at (e ∷ []) h k d lt = absurd (omega (arith, lt))
sorted_at (e ∷ f ∷ es) h zero d lt = h 0 (pair_of e) (omega arith) (omega arith)
sorted_at (e ∷ f ∷ es) h (suc k) d lt =
    let next : suc k + 1 ≡ suc (k + 1) = omega arith in
    rw next (sorted_at (f ∷ es) (sorted-rest edge_type_order edge_type_order_total (pair_of e) (map pair_of (f ∷ es)) h) k d (omega (arith, lt)))

pub labels_sorted : (eq : Equation) (rule : Rule) (row : RuleRow) (n : NodeType) → IsRule eq rule →
    IsIn row rule.rows → IsIn n row.nodes → IsInLabelOrder (labels n)
labels_sorted eq rule row n f i m = λ k d l lt. sorted_at n.edges ((f.normal row i).in_order n m) k d lt

module _ (eq : Equation) (rule : Rule) where
  allowed_sorted : IsRule eq rule → (k : ℕ) (es : List EdgeLabel) → IsInRule eq.types rule k es → IsInLabelOrder es
  allowed_sorted f k es h =
      elim h [
        | inl noise ↦ subst IsInLabelOrder (sym noise.1) (λ i d l m. absurd (omega arith))
        | inr row ↦ subst IsInLabelOrder row.3.2 (labels_sorted eq rule row.0 row.3.0 f row.1 row.3.1)
      ]

  pub drawn_types : (t : Plain) → IsDrawn eq rule t → HasTypes eq.types t
  drawn_types (bare n) d = subst (IsMultiIndex eq.types.dims) (sym d) (zeros_multi eq.types.dims)
  drawn_types (graft k p c t) d = (d.0, drawn_types c d.2, drawn_types t d.3)

  pub drawn_conforms : IsRule eq rule → (t : Plain) → IsDrawn eq rule t → ConformsAbove eq.types rule t
  drawn_conforms f (bare n) d = tt
  drawn_conforms f (graft k p c t) d =
      let roots = node_type-roots c (allowed_sorted f k (root_labels c) d.1) in
      (subst (IsInRule eq.types rule k) (sym roots) d.1, drawn_conforms f c d.2, drawn_conforms f t d.3)

-- a tree with undecorated nodes
abbrev pub strip : Plain → Plain
strip (bare n) = bare zeros
strip (graft k p c t) = graft k p (strip c) (strip t)

-- the sum of the entries of the decorations of the nodes
abbrev pub node_sum : Plain → ℕ
node_sum (bare n) = sum n
node_sum (graft k p c t) = node_sum c + node_sum t

pub roots-strip : (t : Plain) → root_labels (strip t) ≡ root_labels t
roots-strip (bare n) = refl
roots-strip (graft k p c t) = ap (λ (es : List EdgeLabel). (k, p) ∷ es) (roots-strip t)

pub weight-strip : (q : Count) (t : Plain) → weight_of q (strip t) ≡ weight_of q t
weight-strip q (bare n) = refl
weight-strip q (graft k p c t) = omega (arith, weight-strip q c, weight-strip q t)

pub strip_drawn : (eq : Equation) (rule : Rule) (t : Plain) → IsCanonical t → HasTypes eq.types t → ConformsAbove eq.types rule t → IsDrawn eq rule (strip t)
strip_drawn eq rule (bare n) h k c = refl
strip_drawn eq rule (graft l p c t) h k m =
    let roots : node_type_of c ≡ root_labels (strip c) = roots-canonical c h.0 ∙ sym (roots-strip c) in (
      record { known = k.0.known; decoration = k.0.decoration; noise = λ z. ap strip (k.0.noise z) },
      subst (IsInRule eq.types rule l) roots m.0,
      strip_drawn eq rule c h.0 k.1 m.1,
      strip_drawn eq rule t h.1 k.2 m.2,
    )

-- what is counted
pub weight_edges : (t : Plain) → weight_of Edges t ≡ edge_count_of t
weight_edges (bare n) = refl
weight_edges (graft k p c t) = omega (arith, weight_edges c, weight_edges t)

pub weight_sum : (t : Plain) → weight_of Decorations t + node_sum t ≡ decoration_sum_of t
weight_sum (bare n) = omega arith
weight_sum (graft k p c t) = omega (arith, weight_sum c, weight_sum t)

pub drawn_sum : (eq : Equation) (rule : Rule) (t : Plain) → IsDrawn eq rule t → node_sum t ≡ 0
drawn_sum eq rule (bare n) d = ap sum d
drawn_sum eq rule (graft k p c t) d = omega (arith, drawn_sum eq rule c d.2, drawn_sum eq rule t d.3)

pub drawn_root : (eq : Equation) (rule : Rule) (t : Plain) → IsDrawn eq rule t → root_of t ≡ zeros
drawn_root eq rule (bare n) d = d
drawn_root eq rule (graft k p c t) d = drawn_root eq rule t d.3
