use Rattle.std.proofs.Common.{ℕ, ◌<◌, length}
use Rattle.normal_rule.specs.declared.rule.NodeType.{NodeType}
use Rattle.large_trees.proofs.Passed.{IsAt}
use Rattle.large_trees.proofs.lengths.row_fits.Given as goal

abbrev pub invariant-loop-node : goal.invariant-loop-node
invariant-loop-node l = (j : ℕ) (n : NodeType) → j < l.node-index → IsAt l.row.nodes j n → length n.edges < 18446744073709551616
