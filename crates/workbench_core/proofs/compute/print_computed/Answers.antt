use Rattle.std.proofs.Common.{◌-◌, arith, refl}
use Rattle.workbench_core.proofs.ComputeLemmas.{report_is}
use Rattle.workbench_core.proofs.compute.print_computed.Goals as goal

pub returns-clause-report : goal.returns-clause-report
returns-clause-report c =
    report_is c.args.r.now (record { report = c.in-Ok.report; reused = c.args.reused; computed = c.len.result - c.args.reused }) c.args.reused c.in-Ok.ensures.text refl (omega (arith, c.len.ensures, c.requires.held))
