use Rattle.std.proofs.Common.{◌≡◌, take}
use Rattle.std.specs.Prelude.{fold, pos, ◌+ℤ◌}
use Rattle.normal_rule.specs.Regularity.{edge_regularity, standard}
use Rattle.normal_rule.proofs.regularity.node_regularity.Given as goal

abbrev pub invariant-loop-edge : goal.invariant-loop-edge
invariant-loop-edge l = l.sum ≡ standard (fold (λ s e. s +ℤ edge_regularity l.eq e) (pos 0) (take l.edge-index l.node.edges))
