use Rattle.tree_pool.proofs.Nodes.{node_at}
use Rattle.tree_pool.proofs.pool.Pool.node.Goals as goal

pub returns-clause-tree : goal.returns-clause-tree
returns-clause-tree c = (node_at c.self.inside.nodes.keys c.args.self.now c.self.inside.types c.args.id.0 c.index-node.result.now c.self.view_is c.self.invariant.nodes c.index-node.ensures).0

pub returns-clause-below : goal.returns-clause-below
returns-clause-below c = (node_at c.self.inside.nodes.keys c.args.self.now c.self.inside.types c.args.id.0 c.index-node.result.now c.self.view_is c.self.invariant.nodes c.index-node.ensures).1

pub returns-clause-kept : goal.returns-clause-kept
returns-clause-kept c = (node_at c.self.inside.nodes.keys c.args.self.now c.self.inside.types c.args.id.0 c.index-node.result.now c.self.view_is c.self.invariant.nodes c.index-node.ensures).2
