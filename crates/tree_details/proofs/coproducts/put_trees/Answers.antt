use Rattle.tree_details.proofs.Sections.{known_at}
use Rattle.tree_details.proofs.coproducts.put_trees.Goals as goal

pub put_tree-requires : goal.put_tree-requires
put_tree-requires c = known_at c.args.pool.now c.args.ids.now c.loop-id.id-index (record { 0 = 0 }) c.loop-id-test.true c.requires
