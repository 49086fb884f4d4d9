-- The normal rule of an equation (after Bruned, Hairer and Zambotti, section 5).
--   IsAllowed u n == n is empty, or a sub-multiset of the factors of a term of the right side of u
--       whose coefficient is not 0
--   IsRow u row == the row is that of the kernel of u: the node types that u allows, in their
--       order, each once
--   AreRows us rows == one row for each unknown, in order
--   IsNormalRule eq rule == the rule is the normal rule of eq
--   nodes_in rows == how many node types the rows have together
--   node_count rule == how many node types the rule has
--   IsNormalRow row == node types in their order, each once and each in order, among them the empty
--       one, and with each all its sub-multisets
--   IsNormal rule == each row is normal
use Rattle.std.specs.Prelude.{◌≡◌, ◌≢◌, ℕ, ◌+◌, pos, List, [], ◌∷◌, ◌⊎◌, ⊤, length}
use Rattle.std.specs.List.Sorted.{IsStrictlySortedBy}
use Rattle.equations.specs.declared.equation.Equation.{Equation}
use Rattle.equations.specs.declared.equation.RightTerm.{RightTerm}
use Rattle.equations.specs.declared.equation.Unknown.{Unknown}
use Rattle.equations.specs.EdgeTypes.{IsInOrder}
use Rattle.ordered_lists.specs.Members.{IsIn}
use Rattle.ordered_lists.specs.Subs.{IsSubMultiset}
use Rattle.normal_rule.specs.declared.rule.NodeType.{NodeType}
use Rattle.normal_rule.specs.declared.rule.RuleRow.{RuleRow}
use Rattle.normal_rule.specs.declared.rule.Rule.{Rule}
use Rattle.normal_rule.specs.Order.{pairs, node_order, empty_node}

abbrev pub IsAllowed : Unknown → NodeType → Type 0
IsAllowed u n = (n ≡ empty_node) ⊎ ((t : RightTerm) × IsIn t u.right × (t.coefficient ≢ pos 0)
    × IsSubMultiset (pairs n) t.factors)

pub record IsRow (u : Unknown) (row : RuleRow) : Type 0 where
  pub kernel : row.kernel ≡ u.kernel
  pub ascending : IsStrictlySortedBy node_order row.nodes
  pub allowed : (n : NodeType) → IsIn n row.nodes → IsAllowed u n
  pub whole : (n : NodeType) → IsAllowed u n → IsIn n row.nodes

abbrev pub AreRows : List Unknown → List RuleRow → Type 0
AreRows [] [] = ⊤
AreRows [] (row ∷ rows) = ⊥
AreRows (u ∷ us) [] = ⊥
AreRows (u ∷ us) (row ∷ rows) = IsRow u row × AreRows us rows

abbrev pub IsNormalRule : Equation → Rule → Type 0
IsNormalRule eq rule = AreRows eq.unknowns rule.rows

abbrev pub nodes_in : List RuleRow → ℕ
nodes_in [] = 0
nodes_in (row ∷ rows) = length row.nodes + nodes_in rows

abbrev pub node_count : Rule → ℕ
node_count rule = nodes_in rule.rows

pub record IsNormalRow (row : RuleRow) : Type 0 where
  pub ascending : IsStrictlySortedBy node_order row.nodes
  pub in_order : (n : NodeType) → IsIn n row.nodes → IsInOrder (pairs n)
  pub empty : IsIn empty_node row.nodes
  pub closed : (n m : NodeType) → IsIn n row.nodes → IsSubMultiset (pairs m) (pairs n) →
      IsIn m row.nodes

abbrev pub IsNormal : Rule → Type 0
IsNormal rule = (row : RuleRow) → IsIn row rule.rows → IsNormalRow row
