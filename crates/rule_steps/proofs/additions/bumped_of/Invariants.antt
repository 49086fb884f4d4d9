use Rattle.std.proofs.Common.{take}
use Rattle.rule_steps.specs.Choices.{IsBumpedOf}
use Rattle.rule_steps.specs.Sets.{IsSetOf}
use Rattle.rule_steps.proofs.additions.bumped_of.Given as goal

abbrev pub invariant-loop-node : goal.invariant-loop-node
invariant-loop-node l = IsSetOf (IsBumpedOf l.direction (take l.node-index l.nodes)) l.found.keys
