use Rattle.std.proofs.Common.{◌≡◌, map, take}
use Rattle.conforming_trees.specs.Conforming.{label}
use Rattle.rule_steps.proofs.RootTypes.{edge_label}
use Rattle.rule_steps.proofs.roots.root_type.Given as goal

abbrev pub invariant-loop-e : goal.invariant-loop-e
invariant-loop-e l = map label l.types.items ≡ map edge_label (take l.e-index l.edges)
