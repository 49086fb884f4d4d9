use Rattle.std.proofs.Common.{subst}
use Rattle.tree_pool.specs.Content.{IsPooled}
use Rattle.tree_pool.proofs.Nodes.{pooled}
use Rattle.tree_pool.proofs.pool.Pool.laws.Goals as goal

pub returns : goal.returns
returns c = subst IsPooled c.self.view_is (pooled c.self.inside.types _ c.self.invariant.nodes)
