use Rattle.std.proofs.Common.{◌≡◌, ◌+◌, map, drop}
use Rattle.std.specs.List.{prefix_len}
use Rattle.std.specs.Ordering.{is_gt}
use Rattle.conforming_trees.specs.Conforming.{edge_label_order, label}
use Rattle.rule_steps.proofs.edges.place.Given as goal

abbrev pub invariant-loop-i : goal.invariant-loop-i
invariant-loop-i l = prefix_len (λ f. is_gt (edge_label_order (label l.e) f)) (map label l.edges) ≡ l.i + prefix_len (λ f. is_gt (edge_label_order (label l.e) f)) (map label (drop l.i l.edges))
