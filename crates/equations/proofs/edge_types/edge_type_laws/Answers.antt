use Rattle.equations.proofs.EdgeTypeLaws.{edge_type_order_total, edge_type_order_exact, node_type_order_total, node_type_order_exact}
use Rattle.equations.proofs.edge_types.edge_type_laws.Goals as goal

pub returns-clause-edge_types : goal.returns-clause-edge_types
returns-clause-edge_types c = (edge_type_order_total, edge_type_order_exact)

pub returns-clause-node_types : goal.returns-clause-node_types
returns-clause-node_types c = (node_type_order_total, node_type_order_exact)
