use Rattle.std.proofs.Common.{map, set}
use Rattle.cutting_tables.proofs.FiveEntries.{rows_next}
use Rattle.cutting_tables.proofs.parts.with_entries.Goals as goal

pub loop-entry-preserved : goal.loop-entry-preserved
loop-entry-preserved c =
    rows_next (λ k. map (λ m. set m.entries c.args.direction k) c.args.items.now) (map (λ m. m.entries) c.loop-entry.all.items)
    (map (λ m. m.entries) c.push_with_entry.new.all.items) _ c.loop-entry.entry c.loop-entry-test.true
    c.in_ok-push_with_entry.ensures c.loop-entry.invariant
