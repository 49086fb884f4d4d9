use Rattle.tree_pool.specs.Forests.{numbers_of}
use Rattle.tree_pool.specs.contracts.forest.ForestPartialEq.TheImpl.{eq-value}
use Rattle.tree_pool.proofs.Equal.{Forest-Decides}
use Rattle.tree_pool.proofs.Sets.{goes_last}
use Rattle.tree_pool.proofs.forest.push_forest.Goals as goal

pub returns-clause-forests : goal.returns-clause-forests
returns-clause-forests c =
    rw c.in_ok-trees.ensures at
    (goes_last eq-value.it numbers_of Forest-Decides record { trees = record { ref_ptr = c.in_ok-trees.field-0.ref_ptr; now = c.in_ok-trees.field-0.now } } c.args.forests.now.keys c.insert.new.self.keys
    (rw (← c.in_ok-trees.ensures) at c.requires) c.in_ok-insert.ensures.keys)
