use Rattle.std.proofs.Common.{◌≡◌, map, take}
use Rattle.conforming_trees.specs.Conforming.{label, labels}
use Rattle.rule_steps.specs.Sums.{options_in}
use Rattle.rule_steps.proofs.choices.options_in.Given as goal

abbrev pub invariant-loop-node : goal.invariant-loop-node
invariant-loop-node l = map labels l.found.items ≡ options_in (take l.node-index l.nodes) (map label l.edges)
