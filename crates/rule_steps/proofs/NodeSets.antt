-- Sets of node types: what is put in, and how many they are.
use Rattle.std.proofs.Common.{◌≡◌, ℕ, ◌<◌, List, [], ◌∷◌, ◌⊎◌, length, map, refl, ap, subst, inl, inr, arith}
use Rattle.std.specs.List.Sorted.{IsStrictlySortedBy}
use Rattle.degree_numbers.specs.declared.types.TypeId.{TypeId}
use Rattle.degree_numbers.specs.declared.multi.Multi.{Multi}
use Rattle.ordered_lists.specs.Members.{IsIn, insert_all}
use Rattle.ordered_lists.proofs.Members.{in_map, from_map}
use Rattle.ordered_lists.proofs.Insertion.{from_insert_all, insert_all_old, insert_all_new, insert_all_sorted, strictly_sorted_unique}
use Rattle.ordered_lists.proofs.Lengths.{length-within}
use Rattle.normal_rule.specs.declared.rule.EdgeType.{EdgeType}
use Rattle.normal_rule.specs.declared.rule.NodeType.{NodeType}
use Rattle.normal_rule.specs.Order.{node_order, node_order_total}
use Rattle.normal_rule.proofs.OrderLaws.{node_order_exact}
use Rattle.conforming_trees.specs.Conforming.{EdgeLabel, label, labels}
use Rattle.rule_steps.specs.Sets.{IsSetOf, HasMany}

abbrev type_id : ℕ → TypeId
type_id k = record { 0 = k }

abbrev multi : List ℕ → Multi
multi p = record { entries = p }

abbrev edge_of : EdgeLabel → EdgeType
edge_of e = record { kind = type_id e.0; p = multi e.1 }

-- a node type is determined by its labels
pub same_edges : (es fs : List EdgeType) → map label es ≡ map label fs → es ≡ fs
same_edges [] [] h = refl
same_edges [] (f ∷ fs) h = absurd cc
same_edges (e ∷ es) [] h = absurd cc
same_edges (e ∷ es) (f ∷ fs) h =
    let one : e ≡ f = ap edge_of (first h) in
    let rest : es ≡ fs = same_edges es fs (later h) in
    cc
  where
    first : label e ∷ map label es ≡ label f ∷ map label fs → label e ≡ label f
    first q = cc

    later : label e ∷ map label es ≡ label f ∷ map label fs → map label es ≡ map label fs
    later q = cc

pub same_node : (n m : NodeType) → labels n ≡ labels m → n ≡ m
same_node n m h = let same = same_edges n.edges m.edges h in λ i. record { edges = same i }

-- the lists of labels of some node types
abbrev pub AreLabelsIn : List NodeType → List EdgeLabel → Type 0
AreLabelsIn ns es = (n : NodeType) × IsIn n ns × (labels n ≡ es)

-- the node types of a set are those whose labels have the property
pub in_set : (P : List EdgeLabel → Type 0) (ns : List NodeType) (n : NodeType) → IsSetOf P ns → P (labels n) → IsIn n ns
in_set P ns n h p = let there = h.all (labels n) p in subst (λ (m : NodeType). IsIn m ns) (same_node there.0 n there.2) there.1

pub set_none : (P : List EdgeLabel → Type 0) → ((es : List EdgeLabel) → P es → ⊥) → IsSetOf P []
unfolding IsStrictlySortedBy
set_none P none = record { ascending = tt; all = λ es p. absurd (none es p); only = λ n h. absurd h }

pub set_one : (P : List EdgeLabel → Type 0) (n : NodeType) → P (labels n) → ((es : List EdgeLabel) → P es → labels n ≡ es) → IsSetOf P (n ∷ [])
unfolding IsStrictlySortedBy
set_one P n here alone = record {
  ascending = (tt, tt);
  all = λ es p. (n, inl refl, alone es p);
  only = λ m h. elim h [ inl e ↦ subst (λ (k : NodeType). P (labels k)) e here | inr none ↦ absurd none ];
}

-- at most one node type
pub set_short : (ns : List NodeType) → length ns < 2 → IsSetOf (λ es. IsIn es (map labels ns)) ns
set_short [] h = set_none (λ es. IsIn es []) (λ es none. none)
set_short (n ∷ []) h = set_one (λ es. IsIn es (labels n ∷ [])) n (inl refl) (λ es there. elim there [ inl e ↦ e | inr none ↦ absurd none ])
set_short (n ∷ m ∷ ns) h = absurd (omega (arith, h))

-- the same set by another property
pub set_by : (P Q : List EdgeLabel → Type 0) (ns : List NodeType) →
    ((es : List EdgeLabel) → P es → Q es) → ((es : List EdgeLabel) → Q es → P es) → IsSetOf P ns →
    IsSetOf Q ns
set_by P Q ns to back h = record {
  ascending = h.ascending;
  all = λ es q. h.all es (back es q);
  only = λ n m. to (labels n) (h.only n m);
}

-- node types that are put into a set
pub set_put : (P Q : List EdgeLabel → Type 0) (keys ns : List NodeType) → IsSetOf P keys →
    ((es : List EdgeLabel) → P es → Q es) → ((es : List EdgeLabel) → AreLabelsIn ns es → Q es) →
    ((es : List EdgeLabel) → Q es → P es ⊎ AreLabelsIn ns es) → IsSetOf Q (insert_all node_order keys ns)
set_put P Q keys ns h old new either = record {
  ascending = insert_all_sorted node_order node_order_total keys ns h.ascending;
  all = λ es q. elim (either es q) [
    | inl p ↦ let there = h.all es p in (there.0, insert_all_old node_order keys ns there.0 there.1, there.2)
    | inr there ↦ (there.0, insert_all_new node_order node_order_exact keys ns there.0 there.1, there.2)
  ];
  only = λ n m. elim (from_insert_all node_order keys ns n m) [
    | inl before ↦ old (labels n) (h.only n before)
    | inr now ↦ new (labels n) (n, now, refl)
  ];
}

-- a property has one set
pub set_unique : (P : List EdgeLabel → Type 0) (ns ms : List NodeType) → IsSetOf P ns → IsSetOf P ms → ns ≡ ms
set_unique P ns ms h k =
    strictly_sorted_unique node_order node_order_total node_order_exact ns ms h.ascending k.ascending
    (λ n m. in_set P ms n k (h.only n m))
    (λ n m. in_set P ns n h (k.only n m))

-- more than 2,000
pub many_of : (P : List EdgeLabel → Type 0) (ns : List NodeType) → IsSetOf P ns → 2000 < length ns → HasMany P
many_of P ns h more = record { nodes = ns; ascending = h.ascending; many = more; only = h.only }

pub many_more : (P Q : List EdgeLabel → Type 0) → ((es : List EdgeLabel) → P es → Q es) → HasMany P → HasMany Q
many_more P Q to h = record { nodes = h.nodes; ascending = h.ascending; many = h.many; only = λ n m. to (labels n) (h.only n m) }

-- a set of a property that many have is large
pub set_many : (P : List EdgeLabel → Type 0) (ns : List NodeType) → HasMany P → IsSetOf P ns → 2000 < length ns
set_many P ns h k =
    let within = length-within node_order node_order_total node_order_exact h.nodes ns h.ascending k.ascending (λ n m. in_set P ns n k (h.only n m)) in
    omega (arith, within, h.many)

-- the labels of node types that are put in
pub labels_in : (ns : List NodeType) (es : List EdgeLabel) → IsIn es (map labels ns) → AreLabelsIn ns es
labels_in ns es h = from_map labels es ns h

pub in_labels : (ns : List NodeType) (es : List EdgeLabel) → AreLabelsIn ns es → IsIn es (map labels ns)
in_labels ns es h = subst (λ (x : List EdgeLabel). IsIn x (map labels ns)) h.2 (in_map labels h.0 ns h.1)
