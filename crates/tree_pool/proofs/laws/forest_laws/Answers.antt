use Rattle.tree_pool.proofs.ForestLaws.{sorting_unique}
use Rattle.tree_pool.proofs.laws.forest_laws.Goals as goal

pub returns : goal.returns
returns c = sorting_unique
