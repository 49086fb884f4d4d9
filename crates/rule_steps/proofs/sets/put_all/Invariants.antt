use Rattle.std.proofs.Common.{◌≡◌}
use Rattle.ordered_lists.specs.Members.{insert_all}
use Rattle.normal_rule.specs.Order.{node_order}
use Rattle.rule_steps.proofs.sets.put_all.Given as goal

abbrev pub invariant-loop-node : goal.invariant-loop-node
invariant-loop-node l = l.into.keys ≡ insert_all node_order l.fn.into.keys l.yielded
