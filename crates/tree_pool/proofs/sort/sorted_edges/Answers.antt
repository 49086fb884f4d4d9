use Rattle.std.proofs.Common.{length, arith, ◌-◌}
use Rattle.tree_pool.proofs.Walks.{below_at, no_edge}
use Rattle.tree_pool.proofs.Sorts.{sort_step}
use Rattle.tree_pool.proofs.sort.sorted_edges.Goals as goal

pub insert_edge-requires-clause-known_edge : goal.insert_edge-requires-clause-known_edge
insert_edge-requires-clause-known_edge c =
    let lt = c.loop-i-test.true in
    let within = c.loop-i.invariant.within in
    below_at (length c.args.pool.now.trees) c.args.edges.now (c.loop-i.i - 1) no_edge c.requires.known (omega (arith, lt, within))

pub loop-i-preserved : goal.loop-i-preserved
loop-i-preserved c =
    let lt = c.loop-i-test.true in
    let within = c.loop-i.invariant.within in
    record {
      within = omega (arith, within);
      known = c.in_ok-insert_edge.ensures.known;
      tree = λ n. sort_step c.args.pool.now n c.args.edges.now c.loop-i.i no_edge c.loop-i.sorted.items c.insert_edge.new.edges.items (omega (arith, lt)) within c.requires.known c.laws.ensures
          (c.loop-i.invariant.tree n) (c.in_ok-insert_edge.ensures.tree n);
    }
