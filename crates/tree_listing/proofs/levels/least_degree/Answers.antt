use Rattle.std.proofs.Common.{refl}
use Rattle.tree_listing.proofs.Leasts.{least_more, least_all}
use Rattle.tree_listing.proofs.levels.least_degree.Goals as goal

pub loop-id-preserved : goal.loop-id-preserved
loop-id-preserved c =
    least_more c.args.pool.now c.args.wholes.now c.loop-id.id-index _ _ c.loop-id.least c.lesser-least.result c.degree.result c.laws.ensures c.requires c.loop-id-test.true refl c.loop-id.invariant c.degree.ensures c.lesser-least.ensures.is
    c.lesser-least.ensures.d c.lesser-least.ensures.e

pub returns : goal.returns
returns c = least_all c.args.pool.now c.args.wholes.now c.loop-id.id-index c.loop-id.least c.loop-id-test.false c.loop-id.invariant
