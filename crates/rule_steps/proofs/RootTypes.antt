-- The node type at the root of a tree of a pool.
use Rattle.std.proofs.Common.{◌≡◌, ℕ, ◌≤◌, List, [], ◌∷◌, map, take, length, sum, refl, sym, ap, ◌∙◌, subst, arith}
use Rattle.degree_numbers.specs.declared.types.Types.{Types}
use Rattle.plain_trees.specs.Plain.{Plain, bare, graft, root_of, decoration_sum_of}
use Rattle.plain_trees.proofs.Views.{root_of-grafted}
use Rattle.plain_trees.proofs.WrittenTrees.{root_index}
use Rattle.tree_pool.specs.Content.{Content, tree_at, Holds, edge_over, tree_over, IsKept}
use Rattle.tree_pool.specs.declared.node.EdgeTo.{EdgeTo}
use Rattle.tree_pool.proofs.Walks.{at_holds, root_at, all_taken}
use Rattle.normal_rule.specs.declared.rule.EdgeType.{EdgeType}
use Rattle.normal_rule.specs.declared.rule.NodeType.{NodeType}
use Rattle.normal_rule.specs.declared.rule.Rule.{Rule}
use Rattle.conforming_trees.specs.Conforming.{EdgeLabel, label, labels, node_type_of}
use Rattle.rule_stages.specs.Stages.{join}
use Rattle.rule_steps.specs.Sets.{IsSetOf, HasMany, IsAdditionTo, IsAdditionAt}

abbrev pub edge_label : EdgeTo → EdgeLabel
edge_label e = (e.kind.0, e.p.entries)

node_type-over : (c : Content) (n : List ℕ) (es : List EdgeTo) → node_type_of (tree_over c.trees n es) ≡ join (map edge_label es) []
node_type-over c n [] = refl
node_type-over c n (e ∷ es) = ap (λ (l : List EdgeLabel). join (edge_label e ∷ []) l) (node_type-over c n es)

pub root_type_is : (c : Content) (id : ℕ) (n : List ℕ) (es : List EdgeTo) (types : List EdgeType) (i : ℕ) (m : NodeType) →
    Holds c id (tree_over c.trees n es) → length es ≤ i →
    map label types ≡ map edge_label (take i es) → labels m ≡ join (map label types) [] →
    labels m ≡ node_type_of (tree_at c id)
root_type_is c id n es types i m h end same is =
    is ∙ ap (λ (l : List EdgeLabel). join l []) (same ∙ ap (map edge_label) (all_taken es i end)) ∙ sym (node_type-over c n es) ∙ ap node_type_of (sym (at_holds c id (tree_over c.trees n es) h))

-- what is added at a root, by what was read there
same_added : (ty : Types) (rule : Rule) (k : ℕ) (c : Content) (id : ℕ) (n : List ℕ) (es : List EdgeTo) (m : NodeType) (edges : List EdgeType) →
    Holds c id (tree_over c.trees n es) → edges ≡ m.edges → labels m ≡ node_type_of (tree_at c id) →
    IsAdditionTo ty rule k n (map label edges) ≡ IsAdditionAt ty rule k (tree_at c id)
same_added ty rule k c id n es m edges h read type =
    let types : map label edges ≡ node_type_of (tree_at c id) = ap (map label) read ∙ type in
    ap (λ (l : List ℕ). IsAdditionTo ty rule k l (map label edges)) (sym (root_at c id n es h)) ∙ ap (IsAdditionTo ty rule k (root_of (tree_at c id))) types

pub set_at_root : (ty : Types) (rule : Rule) (k : ℕ) (c : Content) (id : ℕ) (n : List ℕ) (es : List EdgeTo) (m : NodeType) (edges : List EdgeType) (all : List NodeType) →
    Holds c id (tree_over c.trees n es) → edges ≡ m.edges →
    labels m ≡ node_type_of (tree_at c id) → IsSetOf (IsAdditionTo ty rule k n (map label edges)) all → IsSetOf (IsAdditionAt ty rule k (tree_at c id)) all
set_at_root ty rule k c id n es m edges all h read type = subst (λ P. IsSetOf P all) (same_added ty rule k c id n es m edges h read type)

pub many_at_root : (ty : Types) (rule : Rule) (k : ℕ) (c : Content) (id : ℕ) (n : List ℕ) (es : List EdgeTo) (m : NodeType) (edges : List EdgeType) →
    Holds c id (tree_over c.trees n es) → edges ≡ m.edges → labels m ≡ node_type_of (tree_at c id) →
    HasMany (IsAdditionTo ty rule k n (map label edges)) → HasMany (IsAdditionAt ty rule k (tree_at c id))
many_at_root ty rule k c id n es m edges h read type = subst HasMany (same_added ty rule k c id n es m edges h read type)

root-sum : (t : Plain) → sum (root_of t) ≤ decoration_sum_of t
root-sum (bare n) = omega arith
root-sum (graft k p c t) = omega (arith, root-sum t)

-- the decoration of a node of a pool
pub root_entries : (ty : Types) (c : Content) (n : List ℕ) (es : List EdgeTo) → IsKept ty (tree_over c.trees n es) → length n ≡ 5
root_entries ty c n es kept = subst (λ (m : List ℕ). length m ≡ 5) (root_of-grafted n (map (edge_over c.trees) es)) (root_index ty (tree_over c.trees n es) kept.known).entries

pub root_total : (ty : Types) (c : Content) (n : List ℕ) (es : List EdgeTo) → IsKept ty (tree_over c.trees n es) → sum n ≤ 4096
root_total ty c n es kept =
    let most = root-sum (tree_over c.trees n es) in
    let same : sum (root_of (tree_over c.trees n es)) ≡ sum n = ap (λ (m : List ℕ). sum m) (root_of-grafted n (map (edge_over c.trees) es)) in
    omega (arith, kept.small.decorations, most, same)
