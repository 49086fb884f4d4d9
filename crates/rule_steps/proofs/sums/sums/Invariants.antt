use Rattle.std.proofs.Common.{take}
use Rattle.rule_steps.specs.Sets.{IsSetOf, IsSumOf}
use Rattle.rule_steps.proofs.sums.sums.Given as goal

abbrev pub invariant-loop-x : goal.invariant-loop-x
invariant-loop-x l = IsSetOf (IsSumOf (take l.x-index l.xs) l.ys) l.all.keys
