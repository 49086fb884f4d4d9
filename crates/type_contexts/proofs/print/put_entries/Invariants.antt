use Rattle.std.proofs.Common.{◌≡◌, ℕ, List, ◌∷◌, take, unsigned_abs}
use Rattle.std.specs.List.{AllZip, join_with_byte}
use Rattle.type_contexts.specs.Context.{IsEntryText}
use Rattle.type_contexts.proofs.print.put_entries.Given as goal

abbrev pub invariant-loop-entry : goal.invariant-loop-entry
invariant-loop-entry l = (pieces : List (List ℕ)) × AllZip (IsEntryText l.form (unsigned_abs l.units.den) l.groups) (take l.entry-index l.entries) pieces × (l.out.items ≡ join_with_byte 124 (l.initial.out.items ∷ pieces))
