use Rattle.std.proofs.Common.{◌≡◌, map, drop}
use Rattle.std.specs.Option.{is_some}
use Rattle.conforming_trees.specs.Conforming.{label}
use Rattle.rule_steps.specs.Sums.{without}
use Rattle.rule_steps.proofs.choices.has_all.Given as goal

abbrev pub invariant-loop-e : goal.invariant-loop-e
invariant-loop-e l = is_some (without (map label (drop l.e-index l.edges)) (map label l.rest)) ≡ is_some (without (map label l.edges) (map label l.others))
