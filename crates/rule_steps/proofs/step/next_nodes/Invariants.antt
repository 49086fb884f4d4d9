use Rattle.std.proofs.Common.{◌≤◌, length, take}
use Rattle.rule_steps.specs.Sets.{IsSetOf}
use Rattle.rule_steps.specs.Steps.{trees_of, IsFound}
use Rattle.rule_steps.proofs.step.next_nodes.Given as goal

abbrev pub invariant-loop-id : goal.invariant-loop-id
invariant-loop-id l = record {
  set : IsSetOf (IsFound l.eq l.rule l.row.kernel.0 (trees_of l.pool (take l.id-index l.trees))) l.nodes.keys;
  few : length l.nodes.keys ≤ 2000;
}
