use Rattle.plain_trees.proofs.DegreeBounds.{small_a, small_b}
use Rattle.tree_pool.specs.Content.{tree_at}
use Rattle.tree_listing.proofs.Walks.{small_at}
use Rattle.tree_listing.proofs.passes.keeps.Goals as goal

pub leaves_room-requires-clause-degree_a : goal.leaves_room-requires-clause-degree_a
leaves_room-requires-clause-degree_a c =
    rw c.degree.ensures (small_a c.args.pool.now.types (tree_at c.args.pool.now c.args.child.0) c.laws.ensures.types (small_at c.args.pool.now c.args.child.0 c.laws.ensures c.requires.child))

pub leaves_room-requires-clause-degree_b : goal.leaves_room-requires-clause-degree_b
leaves_room-requires-clause-degree_b c =
    rw c.degree.ensures (small_b c.args.pool.now.types (tree_at c.args.pool.now c.args.child.0) c.laws.ensures.types (small_at c.args.pool.now c.args.child.0 c.laws.ensures c.requires.child))
