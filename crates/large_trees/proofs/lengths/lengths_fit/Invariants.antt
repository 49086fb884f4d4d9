use Rattle.std.proofs.Common.{ℕ, ◌<◌, length}
use Rattle.ordered_lists.specs.Members.{IsIn}
use Rattle.normal_rule.specs.declared.rule.NodeType.{NodeType}
use Rattle.normal_rule.specs.declared.rule.RuleRow.{RuleRow}
use Rattle.large_trees.proofs.Passed.{IsAt}
use Rattle.large_trees.proofs.lengths.lengths_fit.Given as goal

abbrev pub invariant-loop-row : goal.invariant-loop-row
invariant-loop-row l = (j : ℕ) (r : RuleRow) → j < l.row-index → IsAt l.rule.rows j r → (n : NodeType) → IsIn n r.nodes → length n.edges < 18446744073709551616
