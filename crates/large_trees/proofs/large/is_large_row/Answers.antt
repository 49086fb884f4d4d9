use Rattle.std.proofs.Common.{◌≤◌, length}
use Rattle.ordered_lists.specs.Members.{IsIn}
use Rattle.ordered_lists.proofs.Members.{member_at}
use Rattle.normal_rule.specs.declared.rule.NodeType.{NodeType}
use Rattle.large_trees.specs.Large.{HasLargeNode}
use Rattle.large_trees.proofs.Passed.{passed_all}
use Rattle.large_trees.proofs.large.is_large_row.Goals as goal

pub is_large_node-requires-clause-low : goal.is_large_node-requires-clause-low
is_large_node-requires-clause-low c =
    let inside : IsIn c.node-item.result c.args.row.now.nodes = rw (← c.as_slice-node-items.ensures) (member_at c.as_slice-node-items.result.now c.loop-node.node-index c.node-item.result c.loop-node-test.true c.node-item.is) in
    c.requires.low c.node-item.result inside

pub returns-then-is_large_node-clause-yes : goal.returns-then-is_large_node-clause-yes
returns-then-is_large_node-clause-yes c = λ e.
    let inside : IsIn c.node-item.result c.args.row.now.nodes = rw (← c.as_slice-node-items.ensures) (member_at c.as_slice-node-items.result.now c.loop-node.node-index c.node-item.result c.loop-node-test.true c.node-item.is) in
    (c.node-item.result, inside, c.is_large_node.ensures.yes c.if-is_large_node.true)

pub returns-clause-no : goal.returns-clause-no
returns-clause-no c = λ e h.
    let all : length c.args.row.now.nodes ≤ c.loop-node.node-index = rw (← c.as_slice-node-items.ensures) c.loop-node-test.false in
    passed_all (λ (n : NodeType). HasLargeNode c.args.eq.now c.args.count c.args.cells.now c.args.unit n → ⊥) c.args.row.now.nodes c.loop-node.node-index all c.loop-node.invariant h.0 h.1 h.2
