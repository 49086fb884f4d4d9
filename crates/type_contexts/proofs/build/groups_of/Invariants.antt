use Rattle.std.proofs.Common.{◌≡◌, ◌≤◌, take, length}
use Rattle.type_contexts.specs.Made.{groups_of}
use Rattle.type_contexts.proofs.build.groups_of.Given as goal

abbrev pub invariant-loop-draft : goal.invariant-loop-draft
invariant-loop-draft l = (l.groups ≡ groups_of (take l.draft-index l.drafts)) × (length l.groups ≤ l.draft-index)
