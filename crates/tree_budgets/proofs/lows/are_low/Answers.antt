use Rattle.tree_budgets.specs.Bounds.{IsLowRow}
use Rattle.tree_budgets.proofs.Loops.{all_step, all_done}
use Rattle.tree_budgets.proofs.lows.are_low.Goals as goal

pub loop-row-preserved : goal.loop-row-preserved
loop-row-preserved c =
    all_step (IsLowRow c.args.types.now c.args.lows.now) c.as_slice-row-items.result.now c.loop-row.row-index c.row-item.result _ c.loop-row-test.true c.row-item.is c.loop-row.invariant
    (c.is_row_low.ensures c.if-not-is_row_low.false)

pub returns : goal.returns
returns c = λ t. all_done (IsLowRow c.args.types.now c.args.lows.now) c.as_slice-row-items.result.now c.args.rule.now.rows c.loop-row.row-index c.loop-row-test.false c.as_slice-row-items.ensures c.loop-row.invariant
