use Rattle.std.proofs.Common.{◌∙◌}
use Rattle.std.proofs.lemmas.Result.{err_from_is_err_and}
use Rattle.workbench_core.proofs.SampleLemmas.{sampled, not_sampled}
use Rattle.workbench_core.proofs.samples.sample.Goals as goal

pub returns-in_err-reported-clause-refused : goal.returns-in_err-reported-clause-refused
returns-in_err-reported-clause-refused c =
    let p = err_from_is_err_and c.from_residual-in_err-reported.result c.from_residual-in_err-reported.ensures.1 in
    rw (p.1, p.2) (not_sampled c.args.number c.as_slice.result.now (c.as_slice.ensures.value ∙ c.in_ok-file.ensures) _ c.in_err-reported.ensures.refused)

pub returns-clause-text : goal.returns-clause-text
returns-clause-text c =
    sampled c.args.number c.as_slice.result.now (c.as_slice.ensures.value ∙ c.in_ok-file.ensures) (λ v. v.items) c.in_ok-reported.reported c.summary.result c.in_ok-reported.ensures.values c.summary.ensures.text
