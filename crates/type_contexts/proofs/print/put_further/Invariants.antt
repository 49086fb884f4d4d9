use Rattle.std.proofs.Common.{◌≡◌, ◌∷◌, map, take, decimal}
use Rattle.std.specs.List.{join_with_byte}
use Rattle.type_contexts.proofs.print.put_further.Given as goal

abbrev pub invariant-loop-entry : goal.invariant-loop-entry
invariant-loop-entry l = l.out.items ≡ join_with_byte 44 (l.initial.out.items ∷ map decimal (take l.entry-index l.entries))
