use Rattle.std.proofs.Common.{◌≡◌, ◌∷◌, map, take, decimal}
use Rattle.std.specs.List.{join_with_byte}
use Rattle.type_contexts.proofs.print.put_further_directions.Given as goal

abbrev pub invariant-loop-direction : goal.invariant-loop-direction
invariant-loop-direction l = l.out.items ≡ join_with_byte 44 (l.initial.out.items ∷ map decimal (take l.direction-index l.directions))
