-- The normal rule as it is made: each term's sub-multisets by putting in its factors one after the
-- other.
-- Working notions of the code and of proofs, which no contract of a public call names:
--   edge_of f == the edge type of a factor
--   with_factor f n == n with the factor f at its end
--   grow ns f == the node types ns, and each of them with the factor f at its end, in their order,
--       each once
--   subs_of fs == the sub-multisets of the factors fs, in their order, each once
--   put_term ns t == ns and the sub-multisets of the factors of the term t, in their order, each
--       once
--   nodes_of right == the node types that the terms of a right side allow, in their order, each
--       once
--   row_of u, rule_of eq == the row of an unknown, and the rule
use Rattle.std.specs.Prelude.{List, [], ◌∷◌, ◌++◌, map, fold}
use Rattle.equations.specs.declared.equation.Equation.{Equation}
use Rattle.equations.specs.declared.equation.RightTerm.{RightTerm}
use Rattle.equations.specs.declared.equation.Unknown.{Unknown}
use Rattle.equations.specs.EdgeTypes.{EdgeType as Pair}
use Rattle.ordered_lists.specs.Members.{insert_all}
use Rattle.normal_rule.specs.declared.rule.EdgeType.{EdgeType}
use Rattle.normal_rule.specs.declared.rule.NodeType.{NodeType}
use Rattle.normal_rule.specs.declared.rule.RuleRow.{RuleRow}
use Rattle.normal_rule.specs.declared.rule.Rule.{Rule}
use Rattle.normal_rule.specs.Order.{node_order, empty_node}

abbrev pub edge_of : Pair → EdgeType
edge_of f = record { kind = f.0; p = f.1 }

abbrev pub with_factor : Pair → NodeType → NodeType
with_factor f n = record { edges = n.edges ++ edge_of f ∷ [] }

abbrev pub grow : List NodeType → Pair → List NodeType
grow ns f = insert_all node_order ns (map (with_factor f) ns)

abbrev pub subs_of : List Pair → List NodeType
subs_of fs = fold grow (empty_node ∷ []) fs

abbrev pub put_term : List NodeType → RightTerm → List NodeType
put_term ns t = insert_all node_order ns (subs_of t.factors)

abbrev pub nodes_of : List RightTerm → List NodeType
nodes_of right = fold put_term (empty_node ∷ []) right

abbrev pub row_of : Unknown → RuleRow
row_of u = record { kernel = u.kernel; nodes = nodes_of u.right }

abbrev pub rule_of : Equation → Rule
rule_of eq = record { rows = map row_of eq.unknowns }
