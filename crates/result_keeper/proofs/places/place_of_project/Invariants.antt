use Rattle.std.proofs.Common.{◌≡◌, drop, map}
use Rattle.std.specs.List.{position_from}
use Rattle.std.specs.Ordering.{eq_by_cmp}
use Rattle.result_keeper.specs.Kept.{bytes_cmp}
use Rattle.result_keeper.specs.Entries.{project_entry, place_of}
use Rattle.result_keeper.proofs.places.place_of_project.Given as goal

-- the place is among those that are left
abbrev pub invariant-loop-i : goal.invariant-loop-i
invariant-loop-i l = place_of bytes_cmp l.name (map project_entry l.projects) ≡ position_from (λ e. eq_by_cmp bytes_cmp l.name e.0) l.i (map project_entry (drop l.i l.projects))
