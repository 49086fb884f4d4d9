use Rattle.std.proofs.Common.{arith}
use Rattle.tree_pool.proofs.Growth.{grown_length, grown_trans}
use Rattle.pooled_cuttings.proofs.Makings.{pool_after}
use Rattle.pooled_cuttings.proofs.MadeKeys.{uncanon, uncanon_small}
use Rattle.pooled_cuttings.proofs.RightKeys.{joined_later, left_made}
use Rattle.pooled_cuttings.proofs.left_products.left_key.Goals as goal

pub grafted-requires-clause-fits : goal.grafted-requires-clause-fits
grafted-requires-clause-fits c = uncanon c.args.pool.now.types _ c.requires.fits.left

pub product-requires-clause-small : goal.product-requires-clause-small
product-requires-clause-small c =
    rw (joined_later c.args.pool.now c.grafted.new.pool c.args.x.now.right.0 c.args.y.now.right.0 c.in_ok-left.ensures.grown c.requires.x.right c.requires.y.right)
    (uncanon_small _ c.requires.fits.right.small)
