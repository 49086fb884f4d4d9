use Rattle.std.proofs.Common.{◌≡◌, map, take}
use Rattle.conforming_trees.specs.Conforming.{labels}
use Rattle.rule_stages.specs.Stages.{join}
use Rattle.rule_steps.proofs.sums.with_each.Given as goal

abbrev pub invariant-loop-y : goal.invariant-loop-y
invariant-loop-y l = map labels l.all.items ≡ map (join (labels l.x)) (map labels (take l.y-index l.ys))
