-- Node types by their labels: which they are, how they are ordered, and their sub-multisets.
use Rattle.std.proofs.Common.{◌≡◌, ℕ, List, [], ◌∷◌, length, map, refl, ap, ◌∙◌, arith, inl, inr, Ordering, nat_cmp, is_lt, false}
use Rattle.std.specs.Cmp.Lexicographic.{slice_cmp}
use Rattle.std.specs.List.{AllByRecursion}
use Rattle.std.specs.Ordering.{ordering_then}
use Rattle.std.specs.Prelude.{IsSorted}
use Rattle.std.proofs.lemmas.Cmp.{tied_itself, nat_cmp_total}
use Rattle.std.proofs.lemmas.List.{length-map}
use Rattle.equations.specs.EdgeTypes.{EdgeType as Pair, edge_type_order}
use Rattle.equations.proofs.EdgeTypeLaws.{edge_type_order_total}
use Rattle.ordered_lists.specs.Subs.{IsSubMultiset}
use Rattle.ordered_lists.proofs.Counts.{sorted-cons, first_is_least}
use Rattle.ordered_lists.proofs.Unique.{sorted-rest}
use Rattle.normal_rule.specs.declared.rule.EdgeType.{EdgeType}
use Rattle.normal_rule.specs.declared.rule.NodeType.{NodeType}
use Rattle.normal_rule.specs.Order.{pair_of, edge_order, node_order}
use Rattle.conforming_trees.specs.Conforming.{EdgeLabel, edge_label_order, label, labels}
use Rattle.conforming_trees.proofs.Labels.{edge_label_total, IsInLabelOrder}
use Rattle.rule_stages.specs.Stages.{node_type_of_order}

-- the order of node types is that of their labels
order_by_labels : (es fs : List EdgeType) → slice_cmp edge_label_order (map label es) (map label fs) ≡ slice_cmp edge_order es fs
order_by_labels [] [] = refl
order_by_labels [] (f ∷ fs) = refl
order_by_labels (e ∷ es) [] = refl
order_by_labels (e ∷ es) (f ∷ fs) = ap (ordering_then (edge_order e f)) (order_by_labels es fs)

pub named_order : (k : ℕ) (n m : NodeType) → node_type_of_order (k, labels n) (k, labels m) ≡ node_order n m
named_order k n m =
    let rest : ordering_then (nat_cmp (length (labels n)) (length (labels m))) (slice_cmp edge_label_order (labels n) (labels m)) ≡ node_order n m =
    rw (length-map n.edges label, length-map m.edges label) (ap (ordering_then (nat_cmp (length n.edges) (length m.edges))) (order_by_labels n.edges m.edges)) in
    ap (λ (o : Ordering). ordering_then o (ordering_then (nat_cmp (length (labels n)) (length (labels m))) (slice_cmp edge_label_order (labels n) (labels m)))) (tied_itself nat_cmp_total k) ∙ rest

-- labels in order are those of edge types in order
above_labels : (e : EdgeType) (fs : List EdgeType) →
    AllByRecursion (λ y. is_lt (edge_label_order y (label e)) ≡ false) (map label fs) →
    AllByRecursion (λ y. is_lt (edge_type_order y (pair_of e)) ≡ false) (map pair_of fs)
above_labels e [] h = tt
above_labels e (f ∷ fs) h = (h.0, above_labels e fs h.1)

pub pairs_sorted : (es : List EdgeType) → IsInLabelOrder (map label es) → IsSorted edge_type_order (map pair_of es)
pairs_sorted [] h = λ k d l m. absurd (omega arith)
pairs_sorted (e ∷ es) h =
    let rest = pairs_sorted es (sorted-rest edge_label_order edge_label_total (label e) (map label es) h) in
    sorted-cons edge_type_order edge_type_order_total (pair_of e) (map pair_of es) rest (above_labels e es (first_is_least edge_label_order edge_label_total (label e) (map label es) h))

-- sub-multisets
abbrev label_of_pair : Pair → EdgeLabel
label_of_pair f = (f.0.0, f.1.entries)

pub labels_part : (es fs : List EdgeType) → IsSubMultiset (map pair_of es) (map pair_of fs) → IsSubMultiset (map label es) (map label fs)
labels_part [] fs h = tt
labels_part (e ∷ es) [] h = absurd h
labels_part (e ∷ es) (f ∷ fs) h = elim h [ inl taken ↦ inl (ap label_of_pair taken.0, labels_part es fs taken.1) | inr left ↦ inr (labels_part (e ∷ es) fs left) ]
