use Rattle.std.proofs.Common.{arith, length}
use Rattle.std.specs.Ordering.{is_gt}
use Rattle.plain_trees.specs.View.{edge_order_of}
use Rattle.tree_pool.specs.Content.{edge_over}
use Rattle.tree_pool.proofs.Sorts.{place-le, inserted, below_insert}
use Rattle.tree_pool.proofs.sort.insert_edge.Goals as goal

pub insert-requires : goal.insert-requires
insert-requires c =
    omega (arith, (rw c.as_slice.ensures.value at c.place-at.ensures), place-le (edge_over c.args.pool.now.trees) (λ f. is_gt (edge_order_of (edge_over c.args.pool.now.trees c.args.e) f)) c.args.edges.now.items, c.as_slice.ensures.len)

pub returns-clause-tree : goal.returns-clause-tree
returns-clause-tree c = λ n. rw c.in_ok-insert.ensures.items (inserted c.args.pool.now.trees n c.args.edges.now.items c.args.e c.place-at.result (rw (c.as_slice.ensures.value) at c.place-at.ensures))

pub returns-clause-known : goal.returns-clause-known
returns-clause-known c = rw c.in_ok-insert.ensures.items (below_insert (length c.args.pool.now.trees) c.args.edges.now.items c.place-at.result c.args.e c.requires.known c.requires.known_edge)
