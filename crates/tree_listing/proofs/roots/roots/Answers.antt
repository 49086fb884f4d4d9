use Rattle.tree_listing.proofs.RootMembers.{roots_small}
use Rattle.tree_listing.proofs.roots.roots.Goals as goal

pub next_direction-requires-clause-small : goal.next_direction-requires-clause-small
next_direction-requires-clause-small c =
    rw (c.as_slice.ensures.value, c.loop-direction.invariant) (roots_small c.args.types.now c.args.room.now c.loop-direction.direction c.requires.room)
