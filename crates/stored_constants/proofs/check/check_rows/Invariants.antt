use Rattle.std.proofs.Common.{take, map}
use Rattle.std.specs.List.{AllByRecursion}
use Rattle.result_keeper.specs.Entries.{pair_of}
use Rattle.stored_constants.specs.Sound.{IsReadRow}
use Rattle.stored_constants.proofs.check.check_rows.Given as goal

-- the rows so far are read
abbrev pub invariant-loop-place : goal.invariant-loop-place
invariant-loop-place l = AllByRecursion (IsReadRow l.types) (map pair_of (take l.place l.rows))
