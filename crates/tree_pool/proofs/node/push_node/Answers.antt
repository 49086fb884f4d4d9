use Rattle.tree_pool.specs.Nodes.{shape_of}
use Rattle.tree_pool.specs.contracts.node.NodePartialEq.TheImpl.{eq-value}
use Rattle.tree_pool.proofs.Equal.{Node-Decides}
use Rattle.tree_pool.proofs.Sets.{goes_last}
use Rattle.tree_pool.proofs.node.push_node.Goals as goal

pub returns-clause-nodes : goal.returns-clause-nodes
returns-clause-nodes c =
    rw c.in_ok-edges.ensures at
    (goes_last eq-value.it shape_of Node-Decides record { n = c.args.n; edges = record { ref_ptr = c.in_ok-edges.field-0.ref_ptr; now = c.in_ok-edges.field-0.now } } c.args.nodes.now.keys c.insert.new.self.keys
    (rw (← c.in_ok-edges.ensures) at c.requires) c.in_ok-insert.ensures.keys)
