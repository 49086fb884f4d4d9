use Rattle.std.proofs.Common.{take}
use Rattle.tree_pool.specs.Content.{trees_of}
use Rattle.twisted_antipode.specs.Held.{held_over}
use Rattle.vanishing_constants.specs.Zeros.{AreKnownZeros}
use Rattle.vanishing_constants.proofs.zeros.are_zeros.Given as goal

-- so it is for the trees so far
abbrev pub invariant-loop-id : goal.invariant-loop-id
invariant-loop-id l = AreKnownZeros l.pool.types (held_over l.pool l.constants) (trees_of l.pool (take l.id-index l.ids))
