use Rattle.std.proofs.Common.{◌≡◌, ◌+◌, [], drop}
use Rattle.plain_trees.specs.Plain.{edge_count_of}
use Rattle.tree_pool.specs.Content.{tree_over}
use Rattle.tree_pool.proofs.pool.Pool.edges_over.Given as goal

abbrev pub invariant-loop-e : goal.invariant-loop-e
invariant-loop-e l = l.count + edge_count_of (tree_over l.self.trees [] (drop l.e-index l.edges)) ≡ edge_count_of (tree_over l.self.trees [] l.edges)
