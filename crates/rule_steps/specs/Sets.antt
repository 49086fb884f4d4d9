-- Sets of node types, by their edge types.
-- What contracts of public calls say:
--   AreSmallEdges most n == no entry of a derivative decoration in the node type n is greater than
--       most
--   AreSmallEntries most ns == so it is with each of ns
--   AreSmallRows most rows, IsSmallRule most rule == so it is with each node type of the rows, of
--       the rule
-- Working notions of the code and of proofs:
--   HasAll P ns == ns holds, by their labels, all lists of edge types with the property P
--   HasOnly P ns == ns holds no other
--   IsSetOf P ns == ns are in their order, each once, and both
--   HasMany P == more than 2,000 node types (`MOST_NODE_TYPES`) have, by their labels, the property
--       P
--   IsSumOf xs ys es == es are the edge types of one of the node types xs and of one of the node
--       types ys together
--   IsAdditionTo ty rule k n es fs == fs are edge types that can be added to a node with the
--       decoration n and the edge types es, above an edge of type k: an addition, in order
--   IsAdditionAt ty rule k t es == so it is with es and the root of t
--   IsRaisedFrom n ms es == es are the edge types ms, raised by at most n together, in order
--   IsBumpedFrom d es fs == fs are es with one of them raised by one in direction d, in order
use Rattle.std.specs.Prelude.{◌≡◌, ◌≤◌, ◌<◌, ℕ, List, [], length}
use Rattle.std.specs.List.{All}
use Rattle.std.specs.List.Sorted.{IsStrictlySortedBy}
use Rattle.degree_numbers.specs.declared.types.Types.{Types}
use Rattle.ordered_lists.specs.Members.{IsIn}
use Rattle.plain_trees.specs.Plain.{Plain, root_of}
use Rattle.normal_rule.specs.declared.rule.NodeType.{NodeType}
use Rattle.normal_rule.specs.declared.rule.Rule.{Rule}
use Rattle.normal_rule.specs.declared.rule.RuleRow.{RuleRow}
use Rattle.normal_rule.specs.Order.{node_order}
use Rattle.conforming_trees.specs.Conforming.{EdgeLabel, labels, node_type_of}
use Rattle.rule_stages.specs.Stages.{join, IsRaised}
use Rattle.rule_steps.specs.Units.{IsBumped}
use Rattle.rule_steps.specs.Sums.{additions_to}

abbrev pub HasAll : (List EdgeLabel → Type 0) → List NodeType → Type 0
HasAll P ns = (es : List EdgeLabel) → P es → (n : NodeType) × IsIn n ns × (labels n ≡ es)

abbrev pub HasOnly : (List EdgeLabel → Type 0) → List NodeType → Type 0
HasOnly P ns = (n : NodeType) → IsIn n ns → P (labels n)

pub record IsSetOf (P : List EdgeLabel → Type 0) (ns : List NodeType) : Type 0 where
  pub ascending : IsStrictlySortedBy node_order ns
  pub all : HasAll P ns
  pub only : HasOnly P ns

pub record HasMany (P : List EdgeLabel → Type 0) : Type 0 where
  pub nodes : List NodeType
  pub ascending : IsStrictlySortedBy node_order nodes
  pub many : 2000 < length nodes
  pub only : HasOnly P nodes

abbrev pub IsSumOf : List NodeType → List NodeType → List EdgeLabel → Type 0
IsSumOf xs ys es = (x y : NodeType) × IsIn x xs × IsIn y ys × (es ≡ join (labels x) (labels y))

abbrev pub IsAdditionTo : Types → Rule → ℕ → List ℕ → List EdgeLabel → List EdgeLabel → Type 0
IsAdditionTo ty rule k n es fs = (rs : List EdgeLabel) × IsIn rs (additions_to ty rule k n es)
    × (fs ≡ join rs [])

abbrev pub IsAdditionAt : Types → Rule → ℕ → Plain → List EdgeLabel → Type 0
IsAdditionAt ty rule k t es = IsAdditionTo ty rule k (root_of t) (node_type_of t) es

abbrev pub IsRaisedFrom : List ℕ → List EdgeLabel → List EdgeLabel → Type 0
IsRaisedFrom n ms es = (rs : List EdgeLabel) × IsRaised n ms rs × (es ≡ join rs [])

abbrev pub IsBumpedFrom : ℕ → List EdgeLabel → List EdgeLabel → Type 0
IsBumpedFrom d es fs = (rs : List EdgeLabel) × IsBumped d es rs × (fs ≡ join rs [])

abbrev pub AreSmallEdges : ℕ → NodeType → Type 0
AreSmallEdges most n = All (λ e. All (λ m. m ≤ most) e.p.entries) n.edges

abbrev pub AreSmallEntries : ℕ → List NodeType → Type 0
AreSmallEntries most ns = (n : NodeType) → IsIn n ns → AreSmallEdges most n

-- the entries of the derivative decorations of a rule
abbrev pub AreSmallRows : ℕ → List RuleRow → Type 0
AreSmallRows most rows = (row : RuleRow) → IsIn row rows → AreSmallEntries most row.nodes

abbrev pub IsSmallRule : ℕ → Rule → Type 0
IsSmallRule most rule = AreSmallRows most rule.rows
