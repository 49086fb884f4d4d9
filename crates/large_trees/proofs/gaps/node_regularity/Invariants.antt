use Rattle.std.proofs.Common.{◌≡◌, ◌*◌, pos, take}
use Rattle.std.specs.Prelude.{fold, ◌+ℤ◌}
use Rattle.degree_numbers.specs.Degree.{IsWithin}
use Rattle.normal_rule.specs.Regularity.{edge_regularity}
use Rattle.large_trees.specs.Lines.{standard}
use Rattle.large_trees.proofs.gaps.node_regularity.Given as goal

abbrev pub invariant-loop-edge : goal.invariant-loop-edge
invariant-loop-edge l = record {
  sum : l.sum ≡ standard (fold (λ s e. s +ℤ edge_regularity l.eq e) (pos 0) (take l.edge-index l.node.edges));
  small : IsWithin l.sum.a (1000000000000000000 * l.edge-index);
}
