use Rattle.tree_pool.proofs.ForestOrders.{forest_id_order-at}
use Rattle.tree_pool.proofs.laws.order_laws.Goals as goal

pub returns : goal.returns
returns c = forest_id_order-at
