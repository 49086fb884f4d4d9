use Rattle.std.proofs.Common.{◌≡◌, ◌+◌, map, drop}
use Rattle.std.specs.List.{prefix_len}
use Rattle.std.specs.Ordering.{is_gt}
use Rattle.plain_trees.specs.View.{edge_order_of}
use Rattle.tree_pool.specs.Content.{edge_over}
use Rattle.tree_pool.proofs.sort.place.Given as goal

abbrev pub invariant-loop-i : goal.invariant-loop-i
invariant-loop-i l =
    prefix_len (λ f. is_gt (edge_order_of (edge_over l.pool.trees l.e) f)) (map (edge_over l.pool.trees) l.edges)
    ≡ l.i + prefix_len (λ f. is_gt (edge_order_of (edge_over l.pool.trees l.e) f)) (map (edge_over l.pool.trees) (drop l.i l.edges))
