use Rattle.std.proofs.Common.{take}
use Rattle.std.specs.List.{AllZip}
use Rattle.type_contexts.specs.Draft.{IsPieceDraft}
use Rattle.type_contexts.proofs.draft.drafts_of.Given as goal

abbrev pub invariant-loop-piece : goal.invariant-loop-piece
invariant-loop-piece l = AllZip (λ s d. IsPieceDraft s.now d) (take l.piece-index l.pieces) l.drafts.items
