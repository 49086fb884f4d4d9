use Rattle.std.proofs.Common.{◌+◌, map, drop}
use Rattle.plain_trees.specs.View.{grafted, plain, labelled}
use Rattle.plain_trees.specs.Canon.{canon}
use Rattle.plain_trees.specs.declared.tree.Tree.{out-Tree}
use Rattle.plain_trees.specs.declared.tree.Edge.{out-Edge}
use Rattle.plain_trees.proofs.DegreeBounds.{cut_at, small_parts}
use Rattle.tree_pool.proofs.Growth.{grown_trans}
use Rattle.tree_pool.proofs.Makings.{edge_made, interned_step, interned_below, interned_small, interned_types, interned_canon, all_edges}
use Rattle.tree_pool.proofs.pool.Pool.+intern_tree.Goals as goal

pub intern_node-requires-clause-types : goal.intern_node-requires-clause-types
intern_node-requires-clause-types t c =
    let edges = all_edges c.loop-e.self c.args.t.now c.as_slice-e-items.result.now c.loop-e.e-index c.loop-e.edges.items c.as_slice-e-items.ensures c.loop-e-test.false c.loop-e.invariant.edges in
    rw (c.as_slice.ensures.value, c.loop-e.invariant.grown.types) (interned_types c.loop-e.self c.args.self.now.types c.args.t.now c.loop-e.edges.items edges c.requires.types)

pub intern_node-requires-clause-small : goal.intern_node-requires-clause-small
intern_node-requires-clause-small t c =
    let edges = all_edges c.loop-e.self c.args.t.now c.as_slice-e-items.result.now c.loop-e.e-index c.loop-e.edges.items c.as_slice-e-items.ensures c.loop-e-test.false c.loop-e.invariant.edges in
    rw c.as_slice.ensures.value (interned_small c.loop-e.self c.args.t.now c.loop-e.edges.items edges c.requires.small)

pub returns-clause-tree : goal.returns-clause-tree
returns-clause-tree t c =
    let edges = all_edges c.loop-e.self c.args.t.now c.as_slice-e-items.result.now c.loop-e.e-index c.loop-e.edges.items c.as_slice-e-items.ensures c.loop-e-test.false c.loop-e.invariant.edges in
    rw (c.as_slice.ensures.value, interned_canon c.loop-e.self c.args.t.now c.loop-e.edges.items edges) at c.intern_node.ensures.tree

pub loop-e-preserved : goal.loop-e-preserved
loop-e-preserved t c =
    let n = (out-Tree c.args.t.now).n.entries in
    let items = c.as_slice-e-items.result.now in
    let i = c.loop-e.e-index in
    let x = c.e-item.result in
    let e = out-Edge x in
    let rest = grafted n (map labelled (drop (i + 1) items)) in
    let cut = cut_at n items i x c.loop-e-test.true c.e-item.is in
    let known = rw cut at c.loop-e.invariant.types in
    let grown = c.in_ok-child.ensures.grown in
    let there = c.in_ok-child.ensures.tree in
    record {
      grown = grown_trans c.args.self.now c.loop-e.self c.intern_tree.new.self c.loop-e.invariant.grown grown;
      known = rw c.in_ok-push_edge.ensures (interned_below c.loop-e.self c.intern_tree.new.self c.loop-e.edges.items (edge_made e.kind e.p c.in_ok-child.child.0) (canon (plain e.child)) grown c.loop-e.invariant.known there);
      edges = rw c.in_ok-push_edge.ensures (interned_step c.loop-e.self c.intern_tree.new.self items i x c.loop-e.edges.items c.in_ok-child.child.0 grown c.loop-e.invariant.known c.loop-e-test.true c.e-item.is c.loop-e.invariant.edges there);
      small = (small_parts e.kind.0 e.p.entries (plain e.child) rest (rw cut at c.loop-e.invariant.small)).rest;
      types = known.2;
    }
