use Rattle.plain_trees.specs.View.{plain}
use Rattle.tree_details.proofs.PoolTrees.{tree_small}
use Rattle.tree_details.proofs.text.tree_text.Goals as goal

pub print_tree-requires-clause-small : goal.print_tree-requires-clause-small
print_tree-requires-clause-small c = tree_small c.args.pool.now c.args.id.0 (plain c.in-Ok.tree) c.laws.ensures c.requires c.in-Ok.ensures
