use Rattle.std.proofs.Common.{arith, ◌-◌, [], ◌∙◌}
use Rattle.plain_trees.specs.declared.tree.Tree.{out-Tree}
use Rattle.plain_trees.proofs.Inserts.{count-in, count-done, count-above, whole}
use Rattle.plain_trees.proofs.canon.+canonical.Goals as goal

pub canonical-canonical_edge-requires : goal.canonical-canonical_edge-requires
canonical-canonical_edge-requires t c =
    let small = count-in c.args.t.now c.as_slice-items.result.now (c.loop-i.i - 1) c.index-items-i.result c.as_slice-items.ensures (omega arith) c.index-items-i.is in
    (omega (arith, small, c.decreases), omega (arith, small, c.requires))

pub canonical-insert_edge-requires-clause-small : goal.canonical-insert_edge-requires-clause-small
canonical-insert_edge-requires-clause-small t c =
    omega (arith, count-done c.args.t.now c.as_slice-items.result.now c.loop-i.i c.loop-i.edges.items c.as_slice-items.ensures (c.loop-i.invariant.canonical []), c.requires)

pub canonical-insert_edge-requires-clause-small_edge : goal.canonical-insert_edge-requires-clause-small_edge
canonical-insert_edge-requires-clause-small_edge t c =
    let small = count-in c.args.t.now c.as_slice-items.result.now (c.loop-i.i - 1) c.index-items-i.result c.as_slice-items.ensures (omega arith) c.index-items-i.is in
    omega (arith, small, count-above c.in_ok-e.e c.index-items-i.result c.in_ok-e.ensures.edge, c.requires)

pub canonical-returns-clause-tree : goal.canonical-returns-clause-tree
canonical-returns-clause-tree t c =
    let done = whole c.args.t.now c.as_slice-items.result.now c.loop-i.i c.loop-i.edges.items c.as_slice-items.ensures (omega arith) (c.loop-i.invariant.canonical (out-Tree c.args.t.now).n.entries) in
    c.tree_of.ensures ∙ done
