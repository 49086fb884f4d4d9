use Rattle.std.proofs.Common.{◌≡◌, ◌++◌, drop, flat_map}
use Rattle.plain_trees.specs.Text.{tree_text}
use Rattle.tree_pool.specs.Content.{trees_at}
use Rattle.tree_pool.specs.Forests.{numbers}
use Rattle.tree_details.proofs.coproducts.put_trees.Given as goal

abbrev pub invariant-loop-id : goal.invariant-loop-id
invariant-loop-id l = l.out.items ++ flat_map (tree_text l.pool.types) (trees_at l.pool (numbers (drop l.id-index l.ids))) ≡ l.fn.out.items ++ flat_map (tree_text l.pool.types) (trees_at l.pool (numbers l.ids))
