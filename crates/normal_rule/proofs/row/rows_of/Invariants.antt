use Rattle.std.proofs.Common.{◌≡◌, ◌≤◌, map, take}
use Rattle.normal_rule.specs.Made.{row_of}
use Rattle.normal_rule.specs.Rule.{nodes_in}
use Rattle.normal_rule.proofs.row.rows_of.Given as goal

abbrev pub invariant-loop-unknown : goal.invariant-loop-unknown
invariant-loop-unknown l = (l.rows ≡ map row_of (take l.unknown-index l.unknowns)) × (l.count ≡ nodes_in (map row_of (take l.unknown-index l.unknowns))) × (l.count ≤ 2000)
