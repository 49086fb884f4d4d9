use Rattle.tree_budgets.proofs.Plans.{row_plans_step}
use Rattle.tree_budgets.proofs.rows.plan_rows.Goals as goal

pub loop-row-preserved : goal.loop-row-preserved
loop-row-preserved c =
    row_plans_step c.args.eq.now c.args.lows.now c.args.mosts.now c.as_slice-row-items.result.now c.loop-row.row-index c.row-item.result _ c.loop-row.plans c.push.new.self c.in_ok-plan_row.field-0 c.loop-row-test.true
    c.row-item.is c.in_ok-push.ensures.ok c.loop-row.invariant c.in_ok-plan_row.ensures
