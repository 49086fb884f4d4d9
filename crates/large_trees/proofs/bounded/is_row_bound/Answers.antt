use Rattle.std.proofs.Common.{◌≡◌, ◌<◌, ◌≤◌, length, get_or, subst}
use Rattle.std.specs.List.{All}
use Rattle.std.proofs.lemmas.List.{take_all}
use Rattle.std.proofs.lemmas.List.Elements.{All-more}
use Rattle.large_trees.specs.Charges.{IsNodeBound}
use Rattle.large_trees.proofs.bounded.is_row_bound.Goals as goal

pub loop-node-preserved : goal.loop-node-preserved
loop-node-preserved c =
    let lt : c.loop-node.node-index < length c.args.row.now.nodes = rw (← c.as_slice-node-items.ensures) c.loop-node-test.true in
    let is : c.node-item.result ≡ get_or c.args.row.now.nodes c.loop-node.node-index c.node-item.result = rw (← c.as_slice-node-items.ensures) c.node-item.is in
    let next = c.is_node_bound.ensures c.if-not-is_node_bound.false in
    All-more (IsNodeBound c.args.types.now c.args.charge.now c.args.bounds.now c.args.row.now.kernel.0) c.args.row.now.nodes c.loop-node.node-index c.node-item.result lt c.loop-node.invariant
    (subst (IsNodeBound c.args.types.now c.args.charge.now c.args.bounds.now c.args.row.now.kernel.0) is next)

pub returns : goal.returns
returns c = λ t.
    let all : length c.args.row.now.nodes ≤ c.loop-node.node-index = rw (← c.as_slice-node-items.ensures) c.loop-node-test.false in
    record { each = subst (All (IsNodeBound c.args.types.now c.args.charge.now c.args.bounds.now c.args.row.now.kernel.0)) (take_all c.loop-node.node-index c.args.row.now.nodes all) c.loop-node.invariant }
