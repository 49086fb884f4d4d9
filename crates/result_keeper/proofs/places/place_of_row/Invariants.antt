use Rattle.std.proofs.Common.{◌≡◌, drop, map}
use Rattle.std.specs.List.{position_from}
use Rattle.std.specs.Ordering.{eq_by_cmp}
use Rattle.result_keeper.specs.Kept.{row_cmp}
use Rattle.result_keeper.specs.Entries.{row_entry, place_of}
use Rattle.result_keeper.proofs.places.place_of_row.Given as goal

-- the place is among those that are left
abbrev pub invariant-loop-i : goal.invariant-loop-i
invariant-loop-i l = place_of row_cmp (l.context, l.tree) (map row_entry l.rows) ≡ position_from (λ e. eq_by_cmp row_cmp (l.context, l.tree) e.0) l.i (map row_entry (drop l.i l.rows))
