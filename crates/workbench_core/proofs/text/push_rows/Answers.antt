use Rattle.std.proofs.Common.{◌++◌}
use Rattle.workbench_core.proofs.TextLemmas.{AreRowTexts-next, written_after}
use Rattle.workbench_core.proofs.text.push_rows.Goals as goal

pub loop-row-preserved : goal.loop-row-preserved
loop-row-preserved c =
    let so_far = c.loop-row.invariant in
    let last = c.in_ok-push_row.ensures in (
      so_far.0 ++ last.0,
      AreRowTexts-next c.args.eq.now c.args.rows.now c.loop-row.row-index c.row-item.result so_far.0 last.0 c.loop-row-test.true c.row-item.is so_far.1 last.1,
      written_after c.args.text.now.items so_far.0 last.0 c.loop-row.text.items c.push_row.new.text.items so_far.2 last.2,
    )
