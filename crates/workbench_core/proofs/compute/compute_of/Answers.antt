use Rattle.std.proofs.lemmas.Result.{err_from_is_err_and}
use Rattle.workbench_core.proofs.ComputeLemmas.{refused_file, report_printed}
use Rattle.workbench_core.proofs.compute.compute_of.Goals as goal

pub returns-in_err-reported-clause-refused : goal.returns-in_err-reported-clause-refused
returns-in_err-reported-clause-refused c =
    let p = err_from_is_err_and c.from_residual.result c.from_residual.ensures.1 in
    rw (p.1, p.2) (refused_file c.args.file.now _ c.in_err-reported.ensures.refused)

pub returns-clause-report : goal.returns-clause-report
returns-clause-report c = report_printed c.args.file.now _ c.print_computed.result c.print_computed.ensures.report c.in_ok-reported.ensures.values
