use Rattle.plain_trees.specs.View.{plain}
use Rattle.coproduct_examples.proofs.PooledTrees.{typed, small}
use Rattle.coproduct_examples.proofs.trees.put_tree.Goals as goal

pub print_tree-requires-clause-tree : goal.print_tree-requires-clause-tree
print_tree-requires-clause-tree c =
    typed c.args.pool.now c.args.id.0 c.types.result.now (plain c.in-Ok.tree) c.laws.ensures c.requires c.types.ensures.types c.in-Ok.ensures

pub print_tree-requires-clause-small : goal.print_tree-requires-clause-small
print_tree-requires-clause-small c = small c.args.pool.now c.args.id.0 (plain c.in-Ok.tree) c.laws.ensures c.requires c.in-Ok.ensures
