use Rattle.std.proofs.Common.{◌≡◌, ◌++◌, map, drop}
use Rattle.std.specs.Option.{option_map}
use Rattle.conforming_trees.specs.Conforming.{label}
use Rattle.rule_steps.specs.Sums.{without}
use Rattle.rule_steps.proofs.choices.left_over.Given as goal

abbrev pub invariant-loop-e : goal.invariant-loop-e
invariant-loop-e l = option_map (λ ms. map label l.left.items ++ ms) (without (map label (drop l.e-index l.edges)) (map label l.rest)) ≡ without (map label l.edges) (map label l.others)
