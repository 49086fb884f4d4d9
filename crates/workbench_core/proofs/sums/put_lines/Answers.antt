use Rattle.workbench_core.proofs.SumLemmas.{lines_next}
use Rattle.workbench_core.proofs.sums.put_lines.Goals as goal

pub loop-line-preserved : goal.loop-line-preserved
loop-line-preserved c =
    lines_next c.args.pool.now.types c.args.pool.now c.args.lines.now c.loop-line.line-index _ c.args.text.now.items c.loop-line.text.items c.put_line.new.text.items c.loop-line-test.true c.loop-line.invariant
    c.in_ok-put_line.ensures.line
