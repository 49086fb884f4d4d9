use Rattle.std.proofs.Common.{take, map}
use Rattle.tree_pool.specs.Content.{trees_of}
use Rattle.result_keeper.specs.Entries.{pair_of}
use Rattle.stored_constants.proofs.HoldLaws.{IsHeldSoFar}
use Rattle.stored_constants.proofs.hold.hold_rows.Given as goal

-- what the rows of the trees so far hold
abbrev pub invariant-loop-id : goal.invariant-loop-id
invariant-loop-id l = IsHeldSoFar l.pool (map pair_of l.rows) (trees_of l.pool (take l.id-index l.ids)) l.constants l.reused
