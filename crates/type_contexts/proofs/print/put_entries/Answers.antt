use Rattle.std.proofs.Common.{◌++◌, ◌∷◌, [], unsigned_abs, subst}
use Rattle.type_contexts.specs.Context.{IsEntryText}
use Rattle.type_contexts.proofs.Pieces.{pieces_more, zip_more}
use Rattle.type_contexts.proofs.print.put_entries.Goals as goal

pub loop-entry-preserved : goal.loop-entry-preserved
loop-entry-preserved c =
    let told = c.loop-entry.invariant in
    let one = c.in_ok-put_entry.ensures in (
      told.0 ++ one.0 ∷ [],
      zip_more (IsEntryText c.args.form (unsigned_abs c.args.units.den) c.args.groups.now) c.args.entries.now told.0 c.loop-entry.entry-index c.entry-item.result one.0 c.loop-entry-test.true told.1 (subst (λ e. IsEntryText c.args.form (unsigned_abs c.args.units.den) c.args.groups.now e one.0) c.entry-item.is one.1),
      pieces_more 124 c.args.out.now.items c.loop-entry.out.items c.push.new.self.items c.put_entry.new.out.items told.0 one.0 told.2 c.in_ok-push.ensures.items one.2,
    )
