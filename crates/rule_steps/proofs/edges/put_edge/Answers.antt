use Rattle.std.proofs.Common.{arith}
use Rattle.std.specs.Ordering.{is_gt}
use Rattle.conforming_trees.specs.Conforming.{edge_label_order, label}
use Rattle.rule_steps.proofs.Inserted.{place-le, inserted}
use Rattle.rule_steps.proofs.edges.put_edge.Goals as goal

pub insert-requires : goal.insert-requires
insert-requires c = omega (arith, (rw c.as_slice.ensures.value at c.place-at.ensures), place-le (λ f. is_gt (edge_label_order (label c.args.e) f)) c.args.edges.now.items, c.as_slice.ensures.len)

pub returns : goal.returns
returns c = rw c.in_ok-insert.ensures.items (inserted c.args.edges.now.items c.args.e c.place-at.result (rw (c.as_slice.ensures.value) at c.place-at.ensures))
