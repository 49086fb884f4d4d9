use Rattle.std.proofs.Common.{◌++◌, arith, length}
use Rattle.tree_pool.proofs.Makings.{joined_at, joined_types, entries_fit}
use Rattle.tree_pool.proofs.Sorts.{below_append}
use Rattle.tree_pool.proofs.Trees.{AreBelow-le}
use Rattle.tree_pool.proofs.pool.Pool.product.Goals as goal

pub plus-requires : goal.plus-requires
plus-requires c = λ k lt.
    let whole = joined_at c.args.self.now c.args.a.0 c.args.b.0 c.node.result.0.entries c.node-2.result.0.entries c.node.result.1.now c.node-2.result.1.now c.node.ensures.tree c.node-2.ensures.tree in
    entries_fit c.args.self.now c.node.result.0.entries c.node-2.result.0.entries (c.node.result.1.now ++ c.node-2.result.1.now) (rw whole at c.requires.small) k

pub intern_node-requires-clause-known : goal.intern_node-requires-clause-known
intern_node-requires-clause-known c =
    let n = length c.args.self.now.trees in
    let es = c.node.result.1.now in
    let fs = c.node-2.result.1.now in
    rw (c.as_slice.ensures.value, c.in_ok-edges.ensures)
    (below_append n es fs (AreBelow-le c.args.a.0 n es (omega (arith, c.requires.known_a)) c.node.ensures.below) (AreBelow-le c.args.b.0 n fs (omega (arith, c.requires.known_b)) c.node-2.ensures.below))

pub intern_node-requires-clause-types : goal.intern_node-requires-clause-types
intern_node-requires-clause-types c =
    rw (c.as_slice.ensures.value, c.in_ok-edges.ensures, c.plus.ensures)
    (joined_types c.args.self.now c.node.result.0.entries c.node-2.result.0.entries c.node.result.1.now c.node-2.result.1.now c.node.ensures.kept.known c.node-2.ensures.kept.known)

pub intern_node-requires-clause-small : goal.intern_node-requires-clause-small
intern_node-requires-clause-small c =
    let whole = joined_at c.args.self.now c.args.a.0 c.args.b.0 c.node.result.0.entries c.node-2.result.0.entries c.node.result.1.now c.node-2.result.1.now c.node.ensures.tree c.node-2.ensures.tree in
    rw (c.as_slice.ensures.value, c.in_ok-edges.ensures, c.plus.ensures) (rw whole at c.requires.small)

pub returns-clause-tree : goal.returns-clause-tree
returns-clause-tree c =
    let whole = joined_at c.args.self.now c.args.a.0 c.args.b.0 c.node.result.0.entries c.node-2.result.0.entries c.node.result.1.now c.node-2.result.1.now c.node.ensures.tree c.node-2.ensures.tree in
    rw whole (rw (c.as_slice.ensures.value, c.in_ok-edges.ensures, c.plus.ensures) at c.intern_node.ensures.tree)

pub returns-clause-grown : goal.returns-clause-grown
returns-clause-grown c =
    let whole = joined_at c.args.self.now c.args.a.0 c.args.b.0 c.node.result.0.entries c.node-2.result.0.entries c.node.result.1.now c.node-2.result.1.now c.node.ensures.tree c.node-2.ensures.tree in
    rw whole (rw (c.as_slice.ensures.value, c.in_ok-edges.ensures, c.plus.ensures) at c.intern_node.ensures.grown)
