use Rattle.std.proofs.Common.{◌+◌, take, subst, sym}
use Rattle.std.specs.List.{AllZip}
use Rattle.degree_numbers.specs.Units.{IsWholeIn}
use Rattle.type_contexts.specs.Made.{IsEntryOf}
use Rattle.type_contexts.proofs.Pieces.{zip_more, all_map_at}
use Rattle.type_contexts.proofs.build.entries_of.Goals as goal

pub entry_of-requires-clause-whole : goal.entry_of-requires-clause-whole
entry_of-requires-clause-whole c =
    subst (λ d. IsWholeIn d.degree c.args.units.den) (sym c.draft-item.is)
    (all_map_at (λ d. IsWholeIn d c.args.units.den) (λ d. d.degree) c.args.drafts.now c.loop-draft.draft-index c.draft-item.result c.loop-draft-test.true c.requires.whole)

pub loop-draft-preserved : goal.loop-draft-preserved
loop-draft-preserved c =
    subst (λ es. AllZip (IsEntryOf c.args.units.den c.args.groups.now) (take (c.loop-draft.draft-index + 1) c.args.drafts.now) es) (sym c.in_ok-push.ensures.ok)
    (zip_more (IsEntryOf c.args.units.den c.args.groups.now) c.args.drafts.now c.loop-draft.entries c.loop-draft.draft-index c.draft-item.result c.entry_of.result c.loop-draft-test.true c.loop-draft.invariant
    (subst (λ d. IsEntryOf c.args.units.den c.args.groups.now d c.entry_of.result) c.draft-item.is c.entry_of.ensures))
