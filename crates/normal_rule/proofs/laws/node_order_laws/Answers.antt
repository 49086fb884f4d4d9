use Rattle.normal_rule.specs.Order.{edge_order_total, node_order_total}
use Rattle.normal_rule.proofs.OrderLaws.{edge_order_exact, node_order_exact, node_order-pairs}
use Rattle.normal_rule.proofs.laws.node_order_laws.Goals as goal

pub returns-clause-edges : goal.returns-clause-edges
returns-clause-edges c = (edge_order_total, edge_order_exact)

pub returns-clause-nodes : goal.returns-clause-nodes
returns-clause-nodes c = (node_order_total, node_order_exact)

pub returns-clause-pairs : goal.returns-clause-pairs
returns-clause-pairs c = λ n m. node_order-pairs n m
