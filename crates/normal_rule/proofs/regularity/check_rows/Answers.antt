use Rattle.std.proofs.Common.{refl}
use Rattle.normal_rule.proofs.Gaps.{measured_row, first_failure, step_rows, hold_more}
use Rattle.normal_rule.proofs.regularity.check_rows.Goals as goal

pub check_nodes-requires-clause-measured : goal.check_nodes-requires-clause-measured
check_nodes-requires-clause-measured c =
    measured_row c.args.rows.now c.loop-row.row-index c.row-item.result c.as_slice.result.now c.loop-row-test.true c.row-item.is c.as_slice.ensures c.requires.measured

pub returns-in-Err-clause-failure : goal.returns-in-Err-clause-failure
returns-in-Err-clause-failure c =
    first_failure c.args.eq.now c.args.rows.now c.loop-row.row-index c.row-item.result c.as_slice.result.now _ c.loop-row-test.true c.row-item.is c.as_slice.ensures c.loop-row.invariant.1
    refl c.in-Err.ensures.node c.in-Err.ensures.inside c.regularity_of.ensures c.in-Err.ensures.right

pub loop-row-preserved : goal.loop-row-preserved
loop-row-preserved c = (
  step_rows c.args.eq.now c.args.rows.now c.loop-row.row-index c.row-item.result c.as_slice.result.now c.loop-row.gap c.in-Ok.least_of_row c.least-gap.result c.loop-row-test.true c.row-item.is c.as_slice.ensures c.loop-row.invariant.0 c.in-Ok.ensures.gap c.least-gap.ensures,
  hold_more c.args.eq.now c.args.rows.now c.loop-row.row-index c.row-item.result c.as_slice.result.now c.loop-row-test.true c.row-item.is c.as_slice.ensures c.loop-row.invariant.1 c.in-Ok.ensures.hold,
)
