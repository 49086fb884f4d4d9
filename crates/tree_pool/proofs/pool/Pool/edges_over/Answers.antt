use Rattle.std.proofs.Common.{arith}
use Rattle.tree_pool.proofs.Walks.{no_edge, count_cut, below_at}
use Rattle.tree_pool.proofs.pool.Pool.edges_over.Goals as goal

pub edge_count-requires : goal.edge_count-requires
edge_count-requires c = below_at _ c.args.edges.now c.loop-e.e-index no_edge c.requires.known c.loop-e-test.true

pub overflow_add-count : goal.overflow_add-count
overflow_add-count c =
    let cut = count_cut c.args.self.now c.args.edges.now c.loop-e.e-index no_edge c.loop-e-test.true in
    omega (arith, c.edge_count.ensures, cut, c.loop-e.invariant, c.requires.small)

pub overflow_add-count-in-loop-e : goal.overflow_add-count-in-loop-e
overflow_add-count-in-loop-e c =
    let cut = count_cut c.args.self.now c.args.edges.now c.loop-e.e-index no_edge c.loop-e-test.true in
    omega (arith, c.edge_count.ensures, cut, c.loop-e.invariant, c.requires.small)
