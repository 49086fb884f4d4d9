use Rattle.std.proofs.Common.{◌+◌, ◌-◌, ◌<◌, ◌≡◌, [], length, arith}
use Rattle.tree_pool.proofs.Walks.{no_edge, below_at}
use Rattle.cutting_tables.proofs.LowBounds.{edge_at, lows_start, lows_step, lows_end, lows_within}
use Rattle.cutting_tables.proofs.lows.+lows_of.Goals as goal

pub loop-i-init : goal.loop-i-init
loop-i-init t c =
    record {
      most = omega arith;
      lows = lows_start c.args.pool.now c.node-node.result.1.now c.of_node-lows.result
          (c.of_node-lows.ensures.lows c.args.pool.now.types []);
      within = c.of_node-lows.ensures.within;
    }

pub lows_of-above-requires : goal.lows_of-above-requires
lows_of-above-requires t c =
    let es = c.node-node.result.1.now in
    let most = c.loop-i.invariant.most in
    let below = below_at c.args.id.0 es (c.loop-i.i - 1) no_edge c.node-node.ensures.below (omega (arith, most, c.loop-i-test.true)) in
    (omega (arith, below), omega (arith, below, c.requires))

pub with_edge-lows-requires-clause-known : goal.with_edge-lows-requires-clause-known
with_edge-lows-requires-clause-known t c =
    let es = c.node-node.result.1.now in
    let most = c.loop-i.invariant.most in
    let kept = c.node-node.ensures.kept in
    rw c.types.ensures.types (edge_at c.args.pool.now c.node-node.result.0.entries es (c.loop-i.i - 1) (omega (arith, most, c.loop-i-test.true)) kept.known
    kept.small).known

pub with_edge-lows-requires-clause-small : goal.with_edge-lows-requires-clause-small
with_edge-lows-requires-clause-small t c =
    let es = c.node-node.result.1.now in
    let most = c.loop-i.invariant.most in
    let kept = c.node-node.ensures.kept in
    (edge_at c.args.pool.now c.node-node.result.0.entries es (c.loop-i.i - 1) (omega (arith, most, c.loop-i-test.true)) kept.known kept.small).decoration

pub loop-i-preserved : goal.loop-i-preserved
loop-i-preserved t c =
    let pool = c.args.pool.now in
    let es = c.node-node.result.1.now in
    let most = c.loop-i.invariant.most in
    let kept = c.node-node.ensures.kept in
    let j = c.loop-i.i - 1 in
    let lt : j < length es = omega (arith, most, c.loop-i-test.true) in
    let one : j + 1 ≡ c.loop-i.i = omega (arith, c.loop-i-test.true) in
    let small = (edge_at pool c.node-node.result.0.entries es j lt kept.known kept.small).rest in
    let lows = lows_step pool c.types.result.now es c.loop-i.i j c.loop-i.lows c.lows_of-above.result c.with_edge-lows.result one lt c.types.ensures.types
    c.with_edge-lows.ensures c.lows_of-above.ensures.lows c.loop-i.invariant.lows in
    record { most = omega (arith, most); lows = lows; within = lows_within pool.types _ c.with_edge-lows.result c.laws.ensures.types small lows }

pub returns-clause-lows : goal.returns-clause-lows
returns-clause-lows t c =
    let most = c.loop-i.invariant.most in
    lows_end c.args.pool.now c.node-node.result.0.entries c.node-node.result.1.now c.loop-i.i c.args.id.0 c.loop-i.lows (omega (arith, c.loop-i-test.false))
    c.node-node.ensures.tree c.loop-i.invariant.lows
