use Rattle.std.proofs.Common.{sym, ◌∙◌}
use Rattle.tree_listing.proofs.Places.{trees-insert, ids-insert}
use Rattle.tree_listing.proofs.found.put_listed.Goals as goal

pub returns-in_ok-insert-clause-trees : goal.returns-in_ok-insert-clause-trees
returns-in_ok-insert-clause-trees c =
    let place = rw c.as_slice.ensures.value at c.in-Some.ensures in
    rw c.in_ok-insert.ensures.items (trees-insert c.args.pool.now c.args.listed.now.items c.in-Some.i c.args.id ∙ sym place.is)

pub returns-in_ok-insert-clause-listed : goal.returns-in_ok-insert-clause-listed
returns-in_ok-insert-clause-listed c =
    rw c.in_ok-insert.ensures.items (ids-insert c.args.pool.now c.args.listed.now.items c.in-Some.i c.args.id c.requires.listed c.requires.known)
