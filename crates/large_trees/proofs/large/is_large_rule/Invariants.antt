use Rattle.std.proofs.Common.{ℕ, ◌<◌}
use Rattle.normal_rule.specs.declared.rule.RuleRow.{RuleRow}
use Rattle.large_trees.specs.Large.{HasLargeRow}
use Rattle.large_trees.proofs.Passed.{IsAt}
use Rattle.large_trees.proofs.large.is_large_rule.Given as goal

abbrev pub invariant-loop-row : goal.invariant-loop-row
invariant-loop-row l = (j : ℕ) (r : RuleRow) → j < l.row-index → IsAt l.rule.rows j r → HasLargeRow l.eq l.count l.cells l.unit r → ⊥
