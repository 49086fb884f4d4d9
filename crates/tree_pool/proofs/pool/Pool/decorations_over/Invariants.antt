use Rattle.std.proofs.Common.{◌≡◌, ◌+◌, drop}
use Rattle.plain_trees.specs.Plain.{decoration_sum_of}
use Rattle.tree_pool.specs.Content.{tree_over}
use Rattle.tree_pool.proofs.pool.Pool.decorations_over.Given as goal

abbrev pub invariant-loop-e : goal.invariant-loop-e
invariant-loop-e l = l.sum + decoration_sum_of (tree_over l.self.trees l.n.entries (drop l.e-index l.edges)) ≡ decoration_sum_of (tree_over l.self.trees l.n.entries l.edges)
