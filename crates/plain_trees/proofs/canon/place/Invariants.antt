use Rattle.std.proofs.Common.{◌≡◌, ◌+◌, ◌≤◌, [], map, drop}
use Rattle.std.specs.List.{prefix_len}
use Rattle.std.specs.Ordering.{is_gt}
use Rattle.plain_trees.specs.Plain.{edge_count_of}
use Rattle.plain_trees.specs.View.{labelled, grafted, edge_order_of}
use Rattle.plain_trees.proofs.canon.place.Given as goal

abbrev pub invariant-loop-i : goal.invariant-loop-i
invariant-loop-i l = record {
  place : prefix_len (λ f. is_gt (edge_order_of (labelled l.e) f)) (map labelled l.edges) ≡ l.i + prefix_len (λ f. is_gt (edge_order_of (labelled l.e) f)) (map labelled (drop l.i l.edges));
  small : edge_count_of (grafted [] (map labelled (drop l.i l.edges))) ≤ 24;
}
