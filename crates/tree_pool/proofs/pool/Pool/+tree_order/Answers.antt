use Rattle.std.proofs.Common.{arith, ◌∙◌}
use Rattle.tree_pool.specs.Content.{tree_at}
use Rattle.plain_trees.proofs.Orders.{tree_order_edges}
use Rattle.tree_pool.proofs.Walks.{no_edge, root_at, same_tree, order_roots, edges_whole, edges_stop, edges_end, below_at}
use Rattle.tree_pool.proofs.pool.Pool.+tree_order.Goals as goal

pub tree_order-returns-then-a-b : goal.tree_order-returns-then-a-b
tree_order-returns-then-a-b t c = same_tree c.args.self.now c.args.a.0 c.args.b.0 c.if-a-b.true

pub tree_order-returns-in_default-order : goal.tree_order-returns-in_default-order
tree_order-returns-in_default-order t c =
    let ra = root_at c.args.self.now c.args.a.0 c.node.result.0.entries c.node.result.1.now c.node.ensures.tree in
    let rb = root_at c.args.self.now c.args.b.0 c.node-2.result.0.entries c.node-2.result.1.now c.node-2.ensures.tree in
    order_roots (tree_at c.args.self.now c.args.a.0) (tree_at c.args.self.now c.args.b.0) c.order.result (rw (← c.edge_count.ensures, ← c.edge_count-2.ensures) c.in-Equal.ensures) (rw (ra, rb) c.order.ensures) c.in_default-order.not-Equal

pub tree_order-loop-i-init : goal.tree_order-loop-i-init
tree_order-loop-i-init t c =
    edges_whole c.args.self.now c.args.a.0 c.args.b.0 c.node.result.0.entries c.node-2.result.0.entries c.node.result.1.now c.node-2.result.1.now c.node.ensures.tree c.node-2.ensures.tree

pub tree_order-edge_order-requires : goal.tree_order-edge_order-requires
tree_order-edge_order-requires t c =
    let x = below_at c.args.a.0 c.node.result.1.now c.loop-i.i no_edge c.node.ensures.below (omega arith) in
    let y = below_at c.args.b.0 c.node-2.result.1.now c.loop-i.i no_edge c.node-2.ensures.below (omega arith) in
    (omega (arith, x), (omega (arith, x, c.requires.known_a), omega (arith, y, c.requires.known_b)))

pub tree_order-returns-in_default-edge_order : goal.tree_order-returns-in_default-edge_order
tree_order-returns-in_default-edge_order t c =
    let ra = root_at c.args.self.now c.args.a.0 c.node.result.0.entries c.node.result.1.now c.node.ensures.tree in
    let rb = root_at c.args.self.now c.args.b.0 c.node-2.result.0.entries c.node-2.result.1.now c.node-2.ensures.tree in
    tree_order_edges (tree_at c.args.self.now c.args.a.0) (tree_at c.args.self.now c.args.b.0) c.edge_order.result (rw (← c.edge_count.ensures, ← c.edge_count-2.ensures) c.in-Equal.ensures) (rw (ra, rb) c.in-Equal-order.ensures)
    (edges_stop c.args.self.now c.node.result.1.now c.node-2.result.1.now c.loop-i.i no_edge (tree_at c.args.self.now c.args.a.0) (tree_at c.args.self.now c.args.b.0) c.edge_order.result (omega arith) (omega arith) c.loop-i.invariant c.edge_order.ensures c.in_default-edge_order.not-Equal)

pub tree_order-returns : goal.tree_order-returns
tree_order-returns t c =
    let ra = root_at c.args.self.now c.args.a.0 c.node.result.0.entries c.node.result.1.now c.node.ensures.tree in
    let rb = root_at c.args.self.now c.args.b.0 c.node-2.result.0.entries c.node-2.result.1.now c.node-2.ensures.tree in
    tree_order_edges (tree_at c.args.self.now c.args.a.0) (tree_at c.args.self.now c.args.b.0) c.cmp-2.result (rw (← c.edge_count.ensures, ← c.edge_count-2.ensures) c.in-Equal.ensures) (rw (ra, rb) c.in-Equal-order.ensures)
    (c.cmp-2.ensures ∙ (edges_end c.args.self.now c.node.result.1.now c.node-2.result.1.now c.loop-i.i (omega arith) (omega arith) ∙ c.loop-i.invariant))
