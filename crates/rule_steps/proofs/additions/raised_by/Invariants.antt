use Rattle.rule_steps.specs.Choices.{IsRaisedOf}
use Rattle.rule_steps.specs.Sets.{IsSetOf}
use Rattle.rule_steps.proofs.AdditionSets.{so_far}
use Rattle.rule_steps.proofs.additions.raised_by.Given as goal

abbrev pub invariant-loop-unit : goal.invariant-loop-unit
invariant-loop-unit l = IsSetOf (IsRaisedOf (so_far l.direction l._unit l.n.entries) l.fn.nodes.items) l.found.items

abbrev pub invariant-loop-direction : goal.invariant-loop-direction
invariant-loop-direction l = IsSetOf (IsRaisedOf (so_far l.direction 0 l.n.entries) l.fn.nodes.items) l.found.items
