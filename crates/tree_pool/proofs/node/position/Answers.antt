use Rattle.tree_pool.specs.Nodes.{shape_of}
use Rattle.tree_pool.specs.contracts.node.NodePartialEq.TheImpl.{eq-value}
use Rattle.tree_pool.proofs.Equal.{Node-Decides}
use Rattle.tree_pool.proofs.Sets.{at_position}
use Rattle.tree_pool.proofs.node.position.Goals as goal

pub returns : goal.returns
returns c = at_position eq-value.it shape_of Node-Decides c.get_index_of.result record { n = c.args.n.now; edges = c.args.edges } c.args.nodes.now.keys c.get_index_of.ensures.index c.get_index_of.ensures.found
