use Rattle.std.proofs.Common.{Err, refl}
use Rattle.desk_requests.specs.declared.decision.Command.TheVariants.{Add}
use Rattle.workbench_store.specs.Projects.{of_put, Adds}
use Rattle.desk_clerk.proofs.ReplyLemmas.{replied, put_replied, if_ok, if_both}
use Rattle.desk_clerk.proofs.replies.add_reply.Goals as goal

pub returns-in-Ok-clause-replied : goal.returns-in-Ok-clause-replied
returns-in-Ok-clause-replied g c = λ n. put_replied c.args.name.now c.args.file.now n _ _ c.in-Ok.put c.put_reply.result c.in-Ok.ensures.done c.put_reply.ensures.full c.put_reply.ensures.kept

pub returns-in-Err-clause-replied : goal.returns-in-Err-clause-replied
returns-in-Err-clause-replied g c = λ n.
    replied (Add c.args.name.now c.args.file.now) (of_put c.args.name.now) (Adds c.args.name.now c.args.file.now) (λ k next a h. h) (λ e. refl) (λ put. put) n n _ _ (Err c.in-Err.refusal) c.refused.result
    c.in-Err.ensures.done tt tt (if_both c.refused.result (λ r a b. (a, b)) c.refused.ensures.no_memory c.refused.ensures.page)

pub returns-in-Err-clause-fault : goal.returns-in-Err-clause-fault
returns-in-Err-clause-fault g c = if_ok c.refused.result (λ r h is. c.in-Err.ensures.fault (h is)) c.refused.ensures.fault
