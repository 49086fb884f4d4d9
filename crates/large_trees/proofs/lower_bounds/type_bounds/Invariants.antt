use Rattle.std.proofs.Common.{◌≡◌, map, take}
use Rattle.large_trees.specs.Charges.{fine}
use Rattle.large_trees.proofs.lower_bounds.type_bounds.Given as goal

abbrev pub invariant-loop-entry : goal.invariant-loop-entry
invariant-loop-entry l = l.bounds.items ≡ map (λ e. fine e.degree.a) (take l.entry-index l.types.list)
