use Rattle.std.proofs.Common.{◌≡◌, map, take}
use Rattle.plain_trees.specs.View.{labelled}
use Rattle.tree_pool.specs.Content.{edge_over}
use Rattle.tree_pool.proofs.pool.Pool.+plain.Given as goal

abbrev pub decreases-plain : goal.decreases-plain
decreases-plain l = l.id.0

abbrev pub invariant-loop-e : goal.invariant-loop-e
invariant-loop-e l = map labelled l.copies.items ≡ map (edge_over l.self.trees) (take l.e-index l.edges)
