use Rattle.std.proofs.lemmas.Result.{err_from_is_err_and}
use Rattle.workbench_core.specs.Completed.{completed_rule}
use Rattle.workbench_core.specs.Compute.{GivesValues}
use Rattle.antipode_laws.specs.Antipode.{nothing}
use Rattle.workbench_core.proofs.CompletedLemmas.{file_refused_or_memory}
use Rattle.workbench_core.proofs.ComputeLemmas.{over_nothing, typed_nothing, over_file, refused_over_file, work_over}
use Rattle.workbench_core.proofs.compute.report_of.Goals as goal

pub returns-in_err-completed-clause-refused : goal.returns-in_err-completed-clause-refused
returns-in_err-completed-clause-refused c =
    let p = err_from_is_err_and c.from_residual.result c.from_residual.ensures.1 in
    rw (p.1, p.2) (file_refused_or_memory (GivesValues nothing) _ c.args.file.now c.in_err-completed.ensures.refused)

pub report_over-requires-clause-held : goal.report_over-requires-clause-held
report_over-requires-clause-held c = over_nothing c.in_ok-completed.completed.pool c.in_ok-constants.constants c.in_ok-constants.ensures.nothing

pub report_over-requires-clause-typed : goal.report_over-requires-clause-typed
report_over-requires-clause-typed c = typed_nothing c.in_ok-completed.completed.eq.types c.in_ok-constants.constants c.in_ok-constants.ensures.nothing

pub returns-clause-values : goal.returns-clause-values
returns-clause-values c = over_file c.args.file.now c.in_ok-completed.completed c.in_ok-constants.constants c.report_over.result c.in_ok-constants.ensures.nothing c.in_ok-completed.ensures.completed c.report_over.ensures.values

pub returns-clause-refused : goal.returns-clause-refused
returns-clause-refused c = refused_over_file c.args.file.now c.in_ok-completed.completed c.in_ok-constants.constants c.report_over.result c.in_ok-constants.ensures.nothing c.in_ok-completed.ensures.completed c.report_over.ensures.refused

pub returns-clause-work : goal.returns-clause-work
returns-clause-work c = work_over c.in_ok-completed.completed c.in_ok-constants.constants c.report_over.result c.args.work.now.tables c.report_over.new.work.tables c.report_over.ensures.values c.report_over.ensures.work
