use Rattle.std.proofs.Common.{◌++◌, arith}
use Rattle.counterterm_report.specs.Report.{differential_lines}
use Rattle.counterterm_report.proofs.Lines.{differentials-next}
use Rattle.counterterm_report.proofs.trees.put_differentials.Goals as goal

pub loop-i-preserved : goal.loop-i-preserved
loop-i-preserved c =
    let us = c.args.unknowns.now in
    let ds = c.args.values.now in
    differentials-next c.args.eq.now us ds c.loop-i.i c.index-unknowns-i.result c.index-values-i.result c.loop-i.out.items c.put_differential.new.out.items
    (c.args.out.now.items ++ differential_lines c.args.eq.now us ds) (omega (arith, c.loop-i-test.true, c.requires.each)) c.loop-i-test.true c.index-unknowns-i.is c.index-values-i.is c.in_ok-put_differential.ensures c.loop-i.invariant
