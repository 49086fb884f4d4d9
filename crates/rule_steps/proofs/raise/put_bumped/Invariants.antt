use Rattle.std.proofs.Common.{◌≡◌, ◌++◌, map}
use Rattle.conforming_trees.specs.Conforming.{labels}
use Rattle.rule_steps.specs.Units.{first_bumped}
use Rattle.rule_steps.proofs.raise.put_bumped.Given as goal

abbrev pub invariant-loop-i : goal.invariant-loop-i
invariant-loop-i l = map labels l.into.items ≡ map labels l.fn.into.items ++ first_bumped l.direction l.i (labels l.node)
