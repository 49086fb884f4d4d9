-- The orders of edge types and of node types.
--   pair_of e == the edge type e as the pair of its type and its multiindex
--   pairs n == the edge types of a node type as such pairs
--   edge_order e f == by type number, then by multiindex
--   node_order n m == by length, then by edge types from the front
--   empty_node == the node type without edge types
--   edge_order_total, node_order_total == both orders are total
use Rattle.std.specs.Prelude.{List, [], length, map}
use Rattle.std.specs.declared.cmp.Ordering.{Ordering}
use Rattle.std.specs.Ordering.{nat_cmp, on, then_cmp}
use Rattle.std.specs.Cmp.{IsTotalOrder, then_total, on_total, nat_cmp_total}
use Rattle.std.specs.Cmp.Lexicographic.{slice_cmp, lists_total}
use Rattle.equations.specs.EdgeTypes.{edge_type_order, EdgeType as Pair}
use Rattle.equations.proofs.EdgeTypeLaws.{edge_type_order_total}
use Rattle.normal_rule.specs.declared.rule.EdgeType.{EdgeType}
use Rattle.normal_rule.specs.declared.rule.NodeType.{NodeType}

abbrev pub pair_of : EdgeType → Pair
pair_of e = (e.kind, e.p)

abbrev pub pairs : NodeType → List Pair
pairs n = map pair_of n.edges

abbrev pub edge_order : EdgeType → EdgeType → Ordering
edge_order = on pair_of edge_type_order

abbrev pub node_order : NodeType → NodeType → Ordering
node_order = then_cmp (on (λ n. length n.edges) nat_cmp) (on (λ n. n.edges) (slice_cmp edge_order))

abbrev pub empty_node : NodeType
empty_node = record { edges = [] }

pub edge_order_total : IsTotalOrder edge_order
edge_order_total = on_total pair_of edge_type_order_total

pub node_order_total : IsTotalOrder node_order
node_order_total = then_total (on_total (λ n. length n.edges) nat_cmp_total)
    (on_total (λ n. n.edges) (lists_total edge_order_total))
