use Rattle.conforming_trees.proofs.Kernels.{row_kind}
use Rattle.tree_budgets.proofs.Loops.{read_member}
use Rattle.tree_budgets.proofs.lows.lower_each.Goals as goal

pub lower-requires-clause-kernel : goal.lower-requires-clause-kernel
lower-requires-clause-kernel c =
    row_kind c.args.eq.now c.args.rule.now c.row-item.result c.requires.equation c.requires.rule.rows
    (read_member c.as_slice-row-items.result.now c.args.rule.now.rows c.loop-row.row-index c.row-item.result _ c.loop-row-test.true c.row-item.is c.as_slice-row-items.ensures)
