use Rattle.std.proofs.Common.{take}
use Rattle.std.specs.List.{AllZip}
use Rattle.type_contexts.specs.Made.{IsEntryOf}
use Rattle.type_contexts.proofs.build.entries_of.Given as goal

abbrev pub invariant-loop-draft : goal.invariant-loop-draft
invariant-loop-draft l = AllZip (IsEntryOf l.units.den l.groups) (take l.draft-index l.drafts) l.entries
