-- Texts of node types.
--   edge_text ty e == the text of the edge type e
--   further_edges_text ty es == the texts of es, each after a `*`
--   edges_text ty es == `1` where there are none, else the texts of es, joined by `*`
--   AreKnown ty rows == so it is with each node type of the rows
--   node_type_text ty n == the same of the edge types of n
--   IsKnownNode ty n == the edge types of the node type n are those of types in the list
use Rattle.std.specs.Prelude.{ℕ, ◌<◌, List, [], ◌∷◌, ◌++◌, length}
use Rattle.std.specs.List.{All}
use Rattle.degree_numbers.specs.declared.types.Types.{Types}
use Rattle.degree_numbers.specs.EdgeText.{edge_type_text}
use Rattle.normal_rule.specs.declared.rule.EdgeType.{EdgeType}
use Rattle.normal_rule.specs.declared.rule.NodeType.{NodeType}
use Rattle.normal_rule.specs.declared.rule.RuleRow.{RuleRow}

abbrev pub edge_text : Types → EdgeType → List ℕ
edge_text ty e = edge_type_text ty e.kind.0 e.p.entries

-- each after a `*`
abbrev pub further_edges_text : Types → List EdgeType → List ℕ
further_edges_text ty [] = []
further_edges_text ty (e ∷ es) = 42 ∷ (edge_text ty e ++ further_edges_text ty es)

abbrev pub edges_text : Types → List EdgeType → List ℕ
edges_text ty [] = 49 ∷ []
edges_text ty (e ∷ es) = edge_text ty e ++ further_edges_text ty es

abbrev pub node_type_text : Types → NodeType → List ℕ
node_type_text ty n = edges_text ty n.edges

abbrev pub IsKnownNode : Types → NodeType → Type 0
IsKnownNode ty n = All (λ e. e.kind.0 < length ty.list) n.edges

abbrev pub AreKnown : Types → List RuleRow → Type 0
AreKnown ty rows = All (λ row. All (IsKnownNode ty) row.nodes) rows
