use Rattle.std.proofs.Common.{◌≡◌, ◌<◌, ◌≤◌, length, get_or}
use Rattle.ordered_lists.specs.Members.{IsIn}
use Rattle.ordered_lists.proofs.Members.{member_at}
use Rattle.large_trees.specs.Sums.{HasNode}
use Rattle.large_trees.proofs.RoundLines.{one_more, all_of}
use Rattle.large_trees.proofs.rounds.put_nodes.Goals as goal

pub put_node-requires-clause-gap : goal.put_node-requires-clause-gap
put_node-requires-clause-gap c =
    let inside : IsIn c.node-item.result c.args.row.now.nodes = rw (← c.as_slice-node-items.ensures) (member_at c.as_slice-node-items.result.now c.loop-node.node-index c.node-item.result c.loop-node-test.true c.node-item.is) in
    c.requires.gaps c.node-item.result inside

pub loop-node-preserved : goal.loop-node-preserved
loop-node-preserved c =
    let lt : c.loop-node.node-index < length c.args.row.now.nodes = rw (← c.as_slice-node-items.ensures) c.loop-node-test.true in
    let is : c.node-item.result ≡ get_or c.args.row.now.nodes c.loop-node.node-index c.node-item.result = rw (← c.as_slice-node-items.ensures) c.node-item.is in
    one_more (HasNode c.args.eq.now c.args.count c.args.cells.now c.args.row.now.kernel.0) c.args.row.now.nodes c.args.line.now.cells c.loop-node.node-index c.node-item.result c.loop-node.line.cells c.put_node.new.line.cells lt is
    c.loop-node.invariant c.put_node.ensures

pub returns : goal.returns
returns c =
    let all : length c.args.row.now.nodes ≤ c.loop-node.node-index = rw (← c.as_slice-node-items.ensures) c.loop-node-test.false in
    all_of (HasNode c.args.eq.now c.args.count c.args.cells.now c.args.row.now.kernel.0) c.args.row.now.nodes c.args.line.now.cells c.loop-node.node-index c.loop-node.line.cells all c.loop-node.invariant
