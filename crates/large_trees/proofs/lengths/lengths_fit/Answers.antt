use Rattle.std.proofs.Common.{◌≡◌, ◌<◌, ◌≤◌, length, get_or}
use Rattle.ordered_lists.specs.Members.{IsIn}
use Rattle.normal_rule.specs.declared.rule.NodeType.{NodeType}
use Rattle.normal_rule.specs.declared.rule.RuleRow.{RuleRow}
use Rattle.large_trees.proofs.Passed.{passed_more, passed_all}
use Rattle.large_trees.proofs.lengths.lengths_fit.Goals as goal

abbrev Fits : RuleRow → Type 0
Fits x = (n : NodeType) → IsIn n x.nodes → length n.edges < 18446744073709551616

pub loop-row-preserved : goal.loop-row-preserved
loop-row-preserved c =
    let lt : c.loop-row.row-index < length c.args.rule.now.rows = rw (← c.as_slice-row-items.ensures) c.loop-row-test.true in
    let is : c.row-item.result ≡ get_or c.args.rule.now.rows c.loop-row.row-index c.row-item.result = rw (← c.as_slice-row-items.ensures) c.row-item.is in
    passed_more Fits c.args.rule.now.rows c.loop-row.row-index c.row-item.result lt is c.row_fits.ensures c.loop-row.invariant

pub returns : goal.returns
returns c =
    let all : length c.args.rule.now.rows ≤ c.loop-row.row-index = rw (← c.as_slice-row-items.ensures) c.loop-row-test.false in
    λ row n m i. passed_all Fits c.args.rule.now.rows c.loop-row.row-index all c.loop-row.invariant row m n i
