use Rattle.tree_pool.proofs.JoinedLaws.{joined_commutes}
use Rattle.tree_pool.proofs.laws.product_laws.Goals as goal

pub returns : goal.returns
returns c = joined_commutes
