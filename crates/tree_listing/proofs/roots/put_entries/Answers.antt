use Rattle.std.proofs.Common.{◌≡◌, ◌+◌, ◌++◌, ◌∙◌, Bool, true, false, List, sym, ap, subst, arith}
use Rattle.degree_numbers.specs.declared.multi.Multi.{Multi}
use Rattle.tree_listing.specs.Made.{one_if}
use Rattle.tree_listing.specs.Roots.{fits, with_entry}
use Rattle.tree_listing.proofs.RootLaws.{entries_step}
use Rattle.tree_listing.proofs.RootMembers.{entries_past}
use Rattle.tree_listing.proofs.roots.put_entries.Goals as goal

pub returns-then-not-fits : goal.returns-then-not-fits
returns-then-not-fits c =
    let none : fits c.args.types.now c.args.room.now (with_entry c.args.direction c.loop-entry.entry c.args.n.now) ≡ false = subst (λ (m : Multi). fits c.args.types.now c.args.room.now m ≡ false) c.with_entry-n.ensures (sym c.fits.ensures ∙ c.if-not-fits.true) in
    let lt = c.loop-entry-test.true in
    c.loop-entry.invariant ∙ ap (λ (ns : List Multi). c.args.more.now.items ++ ns) (sym (entries_past c.args.types.now c.args.room.now c.args.direction c.args.n.now c.loop-entry.entry (c.args.room.now.entries + 1) (omega arith) none))

pub loop-entry-preserved : goal.loop-entry-preserved
loop-entry-preserved c =
    let fit : fits c.args.types.now c.args.room.now c.with_entry-n.result ≡ true = sym c.fits.ensures ∙ c.if-not-fits.false in
    entries_step c.args.types.now c.args.room.now c.args.direction c.args.n.now c.loop-entry.entry c.with_entry-n.result c.args.more.now.items c.loop-entry.more.items c.push.new.self.items c.loop-entry.invariant c.with_entry-n.ensures
    (subst (λ (b : Bool). c.push.new.self.items ≡ c.loop-entry.more.items ++ one_if b c.with_entry-n.result) (sym fit) c.in_ok-push.ensures.items)
