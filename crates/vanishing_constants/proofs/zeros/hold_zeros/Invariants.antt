use Rattle.std.proofs.Common.{take}
use Rattle.tree_pool.specs.Content.{trees_of}
use Rattle.vanishing_constants.proofs.HeldZeros.{IsZeroSoFar}
use Rattle.vanishing_constants.proofs.zeros.hold_zeros.Given as goal

-- 0 is held for the trees so far that vanish, and nothing that is not a constant
abbrev pub invariant-loop-id : goal.invariant-loop-id
invariant-loop-id l = IsZeroSoFar l.pool l.fn.constants l.constants (trees_of l.pool (take l.id-index l.ids))
