use Rattle.tree_pool.proofs.Nodes.{measures_at}
use Rattle.tree_pool.proofs.pool.Pool.measures.Goals as goal

pub returns : goal.returns
returns c = measures_at c.self.inside.nodes.keys c.self.inside.measures.items c.args.self.now c.self.inside.types c.args.id.0 c.index.result.now c.self.view_is c.self.invariant.measured c.requires c.index.ensures
