use Rattle.std.proofs.Common.{◌≡◌, take}
use Rattle.std.specs.List.{filter_map}
use Rattle.sqlite_keeper.specs.Tables.{shown_name}
use Rattle.sqlite_keeper.proofs.project_table.names_shown.Given as goal

abbrev pub invariant-loop-row : goal.invariant-loop-row
invariant-loop-row l = l.names.items ≡ filter_map shown_name (take l.row-index l.rows)
