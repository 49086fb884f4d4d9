use Rattle.std.proofs.Common.{length}
use Rattle.tree_pool.proofs.Walks.{below_at, no_edge}
use Rattle.tree_pool.proofs.sort.place.Goals as goal

pub edge_order-requires-clause-known_y : goal.edge_order-requires-clause-known_y
edge_order-requires-clause-known_y c = below_at (length c.args.pool.now.trees) c.args.edges.now c.loop-i.i no_edge c.requires.known c.loop-i-test.true
