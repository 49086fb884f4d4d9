use Rattle.conforming_trees.proofs.Orders.{listing_order_total}
use Rattle.conforming_trees.proofs.laws.listing_order_laws.Goals as goal

pub returns : goal.returns
returns c = listing_order_total
