use Rattle.std.proofs.Common.{◌≡◌, drop}
use Rattle.rule_steps.specs.Sums.{nodes_of_kernel}
use Rattle.rule_steps.proofs.choices.row_of.Given as goal

abbrev pub invariant-loop-row : goal.invariant-loop-row
invariant-loop-row l = nodes_of_kernel (drop l.row-index l.rows) l.kernel.0 ≡ nodes_of_kernel l.rows l.kernel.0
