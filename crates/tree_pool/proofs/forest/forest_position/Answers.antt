use Rattle.tree_pool.specs.Forests.{numbers_of}
use Rattle.tree_pool.specs.contracts.forest.ForestPartialEq.TheImpl.{eq-value}
use Rattle.tree_pool.proofs.Equal.{Forest-Decides}
use Rattle.tree_pool.proofs.Sets.{at_position}
use Rattle.tree_pool.proofs.forest.forest_position.Goals as goal

pub returns : goal.returns
returns c = at_position eq-value.it numbers_of Forest-Decides c.get_index_of.result record { trees = c.args.trees } c.args.forests.now.keys c.get_index_of.ensures.index c.get_index_of.ensures.found
