use Rattle.std.proofs.Common.{◌≡◌, take, map}
use Rattle.result_keeper.specs.Entries.{pair_of}
use Rattle.stored_constants.specs.Rows.{rows_of_values}
use Rattle.stored_constants.proofs.new.new_rows.Given as goal

-- the rows of the trees so far that have none
abbrev pub invariant-loop-value : goal.invariant-loop-value
invariant-loop-value l = map pair_of l.new.items ≡ rows_of_values l.types (map pair_of l.rows) (take l.value-index l.values)
