use Rattle.std.proofs.Common.{◌≡◌, ◌*◌, ◌+◌, [], drop}
use Rattle.plain_trees.specs.Plain.{edges_order}
use Rattle.tree_pool.specs.Content.{tree_at, tree_over}
use Rattle.tree_pool.proofs.pool.Pool.+tree_order.Given as goal

abbrev pub decreases-edge_order : goal.decreases-edge_order
decreases-edge_order l = 2 * l.x.now.child.0 + 1

abbrev pub decreases-tree_order : goal.decreases-tree_order
decreases-tree_order l = 2 * l.a.0

abbrev pub invariant-tree_order-loop-i : goal.invariant-tree_order-loop-i
invariant-tree_order-loop-i l =
    edges_order (tree_over l.self.trees [] (drop l.i l.xs)) (tree_over l.self.trees [] (drop l.i l.ys)) ≡ edges_order (tree_at l.self l.fn.a.0) (tree_at l.self l.fn.b.0)
