use Rattle.std.proofs.Common.{take}
use Rattle.characters.proofs.Firsts.{IsFirstSoFar}
use Rattle.characters.proofs.lacking.first.Given as goal

abbrev pub invariant-loop-id : goal.invariant-loop-id
invariant-loop-id l = IsFirstSoFar l.pool l.ids (take l.id-index l.ids) l.first
