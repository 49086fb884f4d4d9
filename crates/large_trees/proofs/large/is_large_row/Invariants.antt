use Rattle.std.proofs.Common.{ℕ, ◌<◌}
use Rattle.normal_rule.specs.declared.rule.NodeType.{NodeType}
use Rattle.large_trees.specs.Large.{HasLargeNode}
use Rattle.large_trees.proofs.Passed.{IsAt}
use Rattle.large_trees.proofs.large.is_large_row.Given as goal

abbrev pub invariant-loop-node : goal.invariant-loop-node
invariant-loop-node l = (j : ℕ) (n : NodeType) → j < l.node-index → IsAt l.row.nodes j n → HasLargeNode l.eq l.count l.cells l.unit n → ⊥
