use Rattle.std.proofs.Common.{◌≡◌, ◌++◌, set, map, drop}
use Rattle.cutting_tables.proofs.parts.push_with_entry.Given as goal

abbrev pub invariant-loop-m : goal.invariant-loop-m
invariant-loop-m l =
    map (λ m. m.entries) l.all.items ++ map (λ m. set m.entries l.direction l.entry) (drop l.m-index l.items)
    ≡ map (λ m. m.entries) l.fn.all.items ++ map (λ m. set m.entries l.direction l.entry) l.items
