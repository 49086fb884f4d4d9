use Rattle.std.proofs.Common.{arith, length, ap, ◌∙◌, refl, List, ℕ}
use Rattle.plain_trees.specs.Canon.{canon}
use Rattle.tree_pool.proofs.Walks.{at_holds}
use Rattle.tree_pool.specs.Content.{tree_at, tree_over}
use Rattle.tree_pool.proofs.Makings.{entries_fit}
use Rattle.tree_pool.proofs.Trees.{AreBelow-le}
use Rattle.pooled_cuttings.proofs.Makings.{raised_at, raised_canon, held_as}
use Rattle.pooled_cuttings.proofs.made.raised.Goals as goal

pub plus-requires : goal.plus-requires
plus-requires c = λ k lt.
    let at = raised_at c.args.pool.now c.args.s.now.entries c.args.id.0 c.node.result.0.entries c.node.result.1.now c.node.ensures.tree in
    entries_fit c.args.pool.now c.args.s.now.entries c.node.result.0.entries c.node.result.1.now (rw at c.requires.fits.small) k

pub intern_node-requires-clause-known : goal.intern_node-requires-clause-known
intern_node-requires-clause-known c =
    AreBelow-le c.args.id.0 (length c.args.pool.now.trees) c.node.result.1.now (omega (arith, c.requires.known)) c.node.ensures.below

pub intern_node-requires-clause-types : goal.intern_node-requires-clause-types
intern_node-requires-clause-types c =
    rw (c.plus.ensures, raised_at c.args.pool.now c.args.s.now.entries c.args.id.0 c.node.result.0.entries c.node.result.1.now c.node.ensures.tree)
    c.requires.fits.types

pub intern_node-requires-clause-small : goal.intern_node-requires-clause-small
intern_node-requires-clause-small c =
    rw (c.plus.ensures, raised_at c.args.pool.now c.args.s.now.entries c.args.id.0 c.node.result.0.entries c.node.result.1.now c.node.ensures.tree)
    c.requires.fits.small

pub returns-clause-tree : goal.returns-clause-tree
returns-clause-tree c =
    let at = raised_at c.args.pool.now c.args.s.now.entries c.args.id.0 c.node.result.0.entries c.node.result.1.now c.node.ensures.tree in
    let root = ap (λ (m : List ℕ). canon (tree_over c.args.pool.now.trees m c.node.result.1.now)) c.plus.ensures in
    let canonical = raised_canon c.args.s.now.entries (tree_at c.args.pool.now c.args.id.0) (rw (at_holds c.args.pool.now c.args.id.0 _ c.node.ensures.tree) c.node.ensures.kept.canonical) in
    held_as c.args.pool.now c.intern_node.new.self c.intern_node.result c.plus.result.entries c.node.result.1.now c.node.result.1.now _ refl (root ∙ ap canon at ∙ canonical)
    c.intern_node.ensures.tree
