use Rattle.tree_pool.specs.Content.{tree_over}
use Rattle.tree_pool.proofs.Sorts.{kept_canon}
use Rattle.tree_pool.proofs.pool.Pool.intern_node.Goals as goal

pub intern_sorted-requires-clause-kept : goal.intern_sorted-requires-clause-kept
intern_sorted-requires-clause-kept c =
    rw (c.as_slice.ensures.value, c.in_ok-sorted.ensures.tree c.args.n.entries) (kept_canon c.args.self.now.types (tree_over c.args.self.now.trees c.args.n.entries c.args.edges.now) c.requires.types c.requires.small)
