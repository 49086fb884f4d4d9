use Rattle.std.proofs.Common.{Err, refl, false}
use Rattle.desk_requests.specs.declared.decision.Command.TheVariants.{Report}
use Rattle.workbench_core.specs.Answers.{of_computing}
use Rattle.workbench_core.specs.Compute.{computing}
use Rattle.workbench_store.specs.Computing.{Computes}
use Rattle.desk_clerk.proofs.ReplyLemmas.{replied, report_replied, if_ok, if_both}
use Rattle.desk_clerk.proofs.replies.report_reply.Goals as goal

pub returns-in-Ok-clause-replied : goal.returns-in-Ok-clause-replied
returns-in-Ok-clause-replied g c = report_replied c.args.name.now _ _ _ _ c.in-Ok.computed _ c.in-Ok.ensures.done c.of_text.ensures c.in-Ok.ensures.work

pub returns-in-Err-clause-replied : goal.returns-in-Err-clause-replied
returns-in-Err-clause-replied g c =
    replied (Report c.args.name.now) of_computing (Computes c.args.name.now false) (λ k next a h. h) (λ e. refl) computing _ _ _ _ (Err c.in-Err.refusal) c.refused.result
    c.in-Err.ensures.done tt tt (if_both c.refused.result (λ r a b. (a, b)) c.refused.ensures.no_memory c.refused.ensures.page)

pub returns-in-Err-clause-fault : goal.returns-in-Err-clause-fault
returns-in-Err-clause-fault g c = if_ok c.refused.result (λ r h is. c.in-Err.ensures.fault (h is)) c.refused.ensures.fault
