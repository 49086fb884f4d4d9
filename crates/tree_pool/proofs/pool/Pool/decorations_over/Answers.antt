use Rattle.std.proofs.Common.{arith}
use Rattle.tree_pool.proofs.Walks.{no_edge, sum_cut, sum_end, below_at}
use Rattle.tree_pool.proofs.pool.Pool.decorations_over.Goals as goal

pub decoration_sum-requires : goal.decoration_sum-requires
decoration_sum-requires c = below_at _ c.args.edges.now c.loop-e.e-index no_edge c.requires.known c.loop-e-test.true

pub total-requires : goal.total-requires
total-requires c =
    let cut = sum_cut c.args.self.now c.args.n.now.entries c.args.edges.now c.loop-e.e-index c.loop-e-test.true in
    omega (arith, cut, c.loop-e.invariant, c.requires.small.decorations)

pub overflow_add-sum : goal.overflow_add-sum
overflow_add-sum c =
    let cut = sum_cut c.args.self.now c.args.n.now.entries c.args.edges.now c.loop-e.e-index c.loop-e-test.true in
    omega (arith, cut, c.loop-e.invariant, c.requires.small.decorations, c.total.ensures, c.decoration_sum.ensures.sum)

pub overflow_add-sum-in-loop-e : goal.overflow_add-sum-in-loop-e
overflow_add-sum-in-loop-e c =
    let cut = sum_cut c.args.self.now c.args.n.now.entries c.args.edges.now c.loop-e.e-index c.loop-e-test.true in
    omega (arith, cut, c.loop-e.invariant, c.requires.small.decorations, c.total.ensures, c.decoration_sum.ensures.sum)

pub total-requires-2 : goal.total-requires-2
total-requires-2 c =
    let end = sum_end c.args.self.now c.args.n.now.entries c.args.edges.now c.loop-e.e-index c.loop-e-test.false in
    omega (arith, end, c.loop-e.invariant, c.requires.small.decorations)

pub overflow_add-result : goal.overflow_add-result
overflow_add-result c =
    let end = sum_end c.args.self.now c.args.n.now.entries c.args.edges.now c.loop-e.e-index c.loop-e-test.false in
    omega (arith, end, c.loop-e.invariant, c.requires.small.decorations, c.total-2.ensures)
