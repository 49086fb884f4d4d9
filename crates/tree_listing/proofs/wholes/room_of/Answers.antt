use Rattle.tree_listing.proofs.Keeping.{room_is}
use Rattle.tree_listing.proofs.wholes.room_of.Goals as goal

pub returns-clause-bounds : goal.returns-clause-bounds
returns-clause-bounds c = rw (c.saturating_sub.ensures, c.decoration_sum.ensures.sum, c.degree.ensures) (room_is c.args.pool.now c.args.most.now c.args.stem.0 c.laws.ensures c.requires.known)
