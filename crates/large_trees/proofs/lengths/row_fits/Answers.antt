use Rattle.std.proofs.Common.{◌≡◌, ◌<◌, ◌≤◌, length, get_or}
use Rattle.normal_rule.specs.declared.rule.NodeType.{NodeType}
use Rattle.large_trees.proofs.Passed.{passed_more, passed_all}
use Rattle.large_trees.proofs.lengths.row_fits.Goals as goal

abbrev Fits : NodeType → Type 0
Fits x = length x.edges < 18446744073709551616

pub loop-node-preserved : goal.loop-node-preserved
loop-node-preserved c =
    let lt : c.loop-node.node-index < length c.args.row.now.nodes = rw (← c.as_slice-node-items.ensures) c.loop-node-test.true in
    let is : c.node-item.result ≡ get_or c.args.row.now.nodes c.loop-node.node-index c.node-item.result = rw (← c.as_slice-node-items.ensures) c.node-item.is in
    passed_more Fits c.args.row.now.nodes c.loop-node.node-index c.node-item.result lt is c.node_fits.ensures c.loop-node.invariant

pub returns : goal.returns
returns c =
    let all : length c.args.row.now.nodes ≤ c.loop-node.node-index = rw (← c.as_slice-node-items.ensures) c.loop-node-test.false in
    passed_all Fits c.args.row.now.nodes c.loop-node.node-index all c.loop-node.invariant
