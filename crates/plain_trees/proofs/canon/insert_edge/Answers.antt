use Rattle.std.proofs.Common.{arith}
use Rattle.std.specs.Ordering.{is_gt}
use Rattle.plain_trees.specs.View.{labelled, edge_order_of}
use Rattle.plain_trees.proofs.Inserts.{place-le, inserted}
use Rattle.plain_trees.proofs.canon.insert_edge.Goals as goal

pub insert-requires : goal.insert-requires
insert-requires c = omega (arith, (rw c.as_slice.ensures.value at c.place-at.ensures), place-le (λ f. is_gt (edge_order_of (labelled c.args.e) f)) c.args.edges.now.items, c.as_slice.ensures.len)

pub returns : goal.returns
returns c = λ n. rw c.in_ok-insert.ensures.items (inserted n c.args.edges.now.items c.args.e c.place-at.result (rw (c.as_slice.ensures.value) at c.place-at.ensures))
