use Rattle.std.proofs.Common.{◌≡◌, take}
use Rattle.normal_rule.specs.Gaps.{rows_gap}
use Rattle.normal_rule.specs.Regularity.{HoldAll, standard}
use Rattle.normal_rule.proofs.regularity.check_rows.Given as goal

abbrev pub invariant-loop-row : goal.invariant-loop-row
invariant-loop-row l = (l.gap ≡ standard (rows_gap l.eq (take l.row-index l.rows))) × HoldAll l.eq (take l.row-index l.rows)
