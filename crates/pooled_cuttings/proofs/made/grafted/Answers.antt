use Rattle.std.proofs.Common.{arith, length, sym, subst, ap, ◌∙◌}
use Rattle.plain_trees.specs.Plain.{IsSmall}
use Rattle.plain_trees.specs.Canon.{canon}
use Rattle.plain_trees.specs.Degree.{HasTypes}
use Rattle.tree_pool.proofs.Trees.{AreBelow-le}
use Rattle.pooled_cuttings.proofs.Makings.{edge_to, graft_at, held_as}
use Rattle.pooled_cuttings.proofs.made.grafted.Goals as goal

pub intern_node-requires-clause-known : goal.intern_node-requires-clause-known
intern_node-requires-clause-known c =
    rw (c.as_slice.ensures.value, c.in_ok-all.ensures)
    (c.requires.child, AreBelow-le c.args.rest.0 (length c.args.pool.now.trees) c.node.result.1.now (omega (arith, c.requires.rest)) c.node.ensures.below)

pub intern_node-requires-clause-types : goal.intern_node-requires-clause-types
intern_node-requires-clause-types c =
    let at = graft_at c.args.pool.now c.args.kind c.args.p c.args.child c.args.rest.0 c.node.result.0.entries c.node.result.1.now c.node.ensures.tree in
    rw (c.as_slice.ensures.value, c.in_ok-all.ensures) (subst (HasTypes c.args.pool.now.types) (sym at) c.requires.fits.types)

pub intern_node-requires-clause-small : goal.intern_node-requires-clause-small
intern_node-requires-clause-small c =
    let at = graft_at c.args.pool.now c.args.kind c.args.p c.args.child c.args.rest.0 c.node.result.0.entries c.node.result.1.now c.node.ensures.tree in
    rw (c.as_slice.ensures.value, c.in_ok-all.ensures) (subst IsSmall (sym at) c.requires.fits.small)

pub returns-clause-tree : goal.returns-clause-tree
returns-clause-tree c =
    let at = graft_at c.args.pool.now c.args.kind c.args.p c.args.child c.args.rest.0 c.node.result.0.entries c.node.result.1.now c.node.ensures.tree in
    held_as c.args.pool.now c.intern_node.new.self c.intern_node.result c.node.result.0.entries _ _ _ (c.as_slice.ensures.value ∙ c.in_ok-all.ensures) (ap canon at)
    c.intern_node.ensures.tree
