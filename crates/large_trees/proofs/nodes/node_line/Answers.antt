use Rattle.std.proofs.Common.{◌≡◌, ◌<◌, length, arith, rules}
use Rattle.large_trees.proofs.Sizes.{node_start, node_step, rest_small}
use Rattle.large_trees.proofs.nodes.node_line.Goals as goal

pub loop-left-init : goal.loop-left-init
loop-left-init c = record { within = omega arith; least = node_start c.args.count c.args.cells.now c.requires.cells c.as_slice-edges.result.now c.start-line.result.cells c.start-line.ensures }

pub with_edge-line-requires-clause-line : goal.with_edge-line-requires-clause-line
with_edge-line-requires-clause-line c =
    let few : length c.as_slice-edges.result.now < 18446744073709551616 = search rules in
    rest_small c.args.count c.args.cells.now c.requires.cells c.as_slice-edges.result.now c.loop-left.left c.loop-left.line.cells few c.loop-left.invariant.least

pub loop-left-preserved : goal.loop-left-preserved
loop-left-preserved c = record {
  within = let w = c.loop-left.invariant.within in omega arith;
  least = node_step c.args.count c.args.cells.now c.requires.cells c.as_slice-edges.result.now c.loop-left.left _ c.loop-left.line.cells c.with_edge-line.result.cells c.loop-left-test.true c.loop-left.invariant.within
      c.loop-left.invariant.least c.with_edge-line.ensures;
}

pub returns-clause-least : goal.returns-clause-least
returns-clause-least c =
    let none : c.loop-left.left ≡ 0 = let f = c.loop-left-test.false in omega arith in
    rw (← c.as_slice-edges.ensures) (rw none at c.loop-left.invariant.least)

pub returns-clause-small : goal.returns-clause-small
returns-clause-small c =
    let few : length c.as_slice-edges.result.now < 18446744073709551616 = search rules in
    rest_small c.args.count c.args.cells.now c.requires.cells c.as_slice-edges.result.now c.loop-left.left c.loop-left.line.cells few c.loop-left.invariant.least
