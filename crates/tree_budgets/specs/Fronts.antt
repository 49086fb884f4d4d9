-- Edges in front of a node type.
-- Working notions of the code and of proofs, which no contract of a public call names:
--   IsFrontLow ty lows n es d == d is the sum of low degrees of edges that stand in front of es in
--       the usable node type n
--   IsFrontLeast ty lows n es d == no sum of such edges is less than d
--   IsExtension n es e == the edge type e in front of es is the usable node type n
--   AreExtensions nodes es i xs == xs are such edge types for the first i of the node types, by
--       ascending places
use Rattle.std.specs.Prelude.{◌≡◌, ◌<◌, ℕ, List, ◌∷◌, ◌++◌, map, slice_get, Some}
use Rattle.std.specs.List.Sorted.{IsStrictlySortedBy}
use Rattle.std.specs.Ordering.{nat_cmp}
use Rattle.degree_numbers.specs.declared.Degree.{Degree}
use Rattle.degree_numbers.specs.declared.Types.{Types}
use Rattle.normal_rule.specs.declared.EdgeType.{EdgeType}
use Rattle.normal_rule.specs.declared.NodeType.{NodeType}
use Rattle.ordered_lists.specs.Members.{IsIn}
use Rattle.conforming_trees.specs.Conforming.{EdgeLabel, labels}
use Rattle.conforming_trees.specs.Budgets.{IsNotAbove, IsUsable, lows_of}
use Rattle.tree_budgets.specs.declared.plan.Extension.{Extension}

pub record IsFrontLow (ty : Types) (lows : List Degree) (n : NodeType) (es : List EdgeLabel)
    (d : Degree) : Type 0 where
  pub front : List EdgeLabel
  pub usable : IsUsable (labels n)
  pub ends : labels n ≡ front ++ es
  pub is : d ≡ lows_of ty lows front

pub record IsFrontLeast (ty : Types) (lows : List Degree) (es : List EdgeLabel) (d : Degree)
    (n : NodeType) : Type 0 where
  pub least : (front : List EdgeLabel) → IsUsable (labels n) → labels n ≡ front ++ es →
      IsNotAbove d (lows_of ty lows front)

pub record IsExtension (n : NodeType) (es : List EdgeType) (e : EdgeType) : Type 0 where
  pub edges : n.edges ≡ e ∷ es
  pub usable : IsUsable (labels n)

pub record AreExtensions (nodes : List NodeType) (es : List EdgeType) (i : ℕ)
    (xs : List Extension) : Type 0 where
  pub ascending : IsStrictlySortedBy nat_cmp (map (λ x. x.node) xs)
  pub below : (x : Extension) → IsIn x xs → x.node < i
  pub extension : (x : Extension) → IsIn x xs → (m : NodeType) × (slice_get nodes x.node
      ≡ Some m) × IsExtension m es x.edge
  pub whole : (j : ℕ) (m : NodeType) (e : EdgeType) → j < i → slice_get nodes j ≡ Some m →
      IsExtension m es e → IsIn record { edge = e; node = j } xs
