use Rattle.std.proofs.Common.{◌≡◌, ◌≤◌, take}
use Rattle.normal_rule.specs.Rule.{nodes_in}
use Rattle.rule_steps.specs.Steps.{HasNextRows}
use Rattle.rule_steps.proofs.step.next_rows.Given as goal

abbrev pub invariant-loop-row : goal.invariant-loop-row
invariant-loop-row l = record {
  rows : HasNextRows l.eq l.rule (take l.row-index l.rule.rows) l.rows;
  count : l.count ≡ nodes_in l.rows;
  few : l.count ≤ 2000;
}
