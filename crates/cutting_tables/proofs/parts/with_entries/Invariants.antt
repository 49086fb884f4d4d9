use Rattle.std.proofs.Common.{◌≡◌, ◌++◌, set, map, flat_map}
use Rattle.plain_trees.specs.Multinomials.{down_from}
use Rattle.cutting_tables.proofs.parts.with_entries.Given as goal

abbrev pub invariant-loop-entry : goal.invariant-loop-entry
invariant-loop-entry l =
    map (λ m. m.entries) l.all.items ++ flat_map (λ k. map (λ m. set m.entries l.direction k) l.items) (down_from l.entry)
    ≡ flat_map (λ k. map (λ m. set m.entries l.direction k) l.items) (down_from l.most)

abbrev pub decreases-loop-entry : goal.decreases-loop-entry
decreases-loop-entry l = l.entry
