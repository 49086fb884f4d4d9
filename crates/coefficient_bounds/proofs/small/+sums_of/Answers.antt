use Rattle.std.proofs.Common.{◌+◌, ◌-◌, ◌<◌, ◌≡◌, length, arith}
use Rattle.plain_trees.specs.Plain.{root_of}
use Rattle.tree_pool.specs.Content.{tree_at}
use Rattle.tree_pool.proofs.Walks.{no_edge, below_at}
use Rattle.coefficient_bounds.proofs.PoolSteps.{modest, root_modest, root_small, small_from, edge_at, sums_start, sums_step, sums_end}
use Rattle.coefficient_bounds.proofs.small.+sums_of.Goals as goal

pub of_node-sums-requires : goal.of_node-sums-requires
of_node-sums-requires t c = root_small c.node.result.0.entries c.args.pool.now c.node.result.1.now
    c.node.ensures.kept.small

pub loop-i-init : goal.loop-i-init
loop-i-init t c =
    let pool = c.args.pool.now in
    let n = c.node.result.0.entries in
    let alone = c.of_node-sums.ensures pool.types c.args.most in
    record {
      most = omega arith;
      sums = sums_start pool c.args.id.0 c.args.most n c.node.result.1.now c.of_node-sums.result
          c.node.ensures.tree alone;
      modest = root_modest pool.types c.args.most n c.of_node-sums.result c.laws.ensures.types
          (root_small n pool c.node.result.1.now c.node.ensures.kept.small) alone;
    }

pub sums_of-above-requires : goal.sums_of-above-requires
sums_of-above-requires t c =
    let es = c.node.result.1.now in
    let most = c.loop-i.invariant.most in
    let below = below_at c.args.id.0 es (c.loop-i.i - 1) no_edge c.node.ensures.below
    (omega (arith, most, c.loop-i-test.true)) in
    (omega (arith, below), omega (arith, below, c.requires))

pub with_edge-sums-requires-clause-known : goal.with_edge-sums-requires-clause-known
with_edge-sums-requires-clause-known t c =
    let es = c.node.result.1.now in
    let most = c.loop-i.invariant.most in
    let kept = c.node.ensures.kept in
    rw c.types.ensures.types (edge_at c.args.pool.now c.node.result.0.entries es (c.loop-i.i - 1)
    (omega (arith, most, c.loop-i-test.true)) kept.known
    kept.small).known

pub with_edge-sums-requires-clause-small : goal.with_edge-sums-requires-clause-small
with_edge-sums-requires-clause-small t c =
    let es = c.node.result.1.now in
    let most = c.loop-i.invariant.most in
    let kept = c.node.ensures.kept in
    (edge_at c.args.pool.now c.node.result.0.entries es (c.loop-i.i - 1)
    (omega (arith, most, c.loop-i-test.true)) kept.known kept.small).decoration

pub loop-i-preserved : goal.loop-i-preserved
loop-i-preserved t c =
    let pool = c.args.pool.now in
    let es = c.node.result.1.now in
    let n = c.node.result.0.entries in
    let most = c.loop-i.invariant.most in
    let kept = c.node.ensures.kept in
    let j = c.loop-i.i - 1 in
    let lt : j < length es = omega (arith, most, c.loop-i-test.true) in
    let one : j + 1 ≡ c.loop-i.i = omega (arith, c.loop-i-test.true) in
    let root = root_of (tree_at pool c.args.id.0) in
    let small = small_from pool c.args.id.0 n es j c.node.ensures.tree
    (edge_at pool n es j lt kept.known kept.small).rest in
    let sums = sums_step pool c.types.result.now c.args.most root es c.loop-i.i j c.loop-i.sums
    c.sums_of-above.result c.with_edge-sums.result one lt c.types.ensures.types
    c.with_edge-sums.ensures c.sums_of-above.ensures.sums c.loop-i.invariant.sums in
    record {
      most = omega (arith, most);
      sums = sums;
      modest =
          modest pool.types c.args.most _ c.with_edge-sums.result c.laws.ensures.types small sums;
    }

pub returns-clause-sums : goal.returns-clause-sums
returns-clause-sums t c =
    sums_end c.args.pool.now c.args.most c.node.result.0.entries c.node.result.1.now c.loop-i.i
    c.args.id.0 c.loop-i.sums (omega (arith, c.loop-i-test.false))
    c.node.ensures.tree c.loop-i.invariant.sums
