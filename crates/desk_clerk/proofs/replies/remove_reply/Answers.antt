use Rattle.std.proofs.Common.{refl}
use Rattle.desk_requests.specs.declared.decision.Command.TheVariants.{Remove}
use Rattle.workbench_store.specs.Projects.{Removes}
use Rattle.desk_clerk.proofs.ReplyLemmas.{text_replied, fault_rose}
use Rattle.desk_clerk.proofs.replies.remove_reply.Goals as goal

pub returns-clause-replied : goal.returns-clause-replied
returns-clause-replied g c = λ n.
    text_replied (Remove c.args.name.now) (Removes c.args.name.now) (λ k next a h. h) (λ v. v.items) n _ _ c.remove.result c.text_reply.result (λ k t. refl) refl (λ a. refl) c.remove.ensures.done c.text_reply.ensures.page

pub returns-clause-fault : goal.returns-clause-fault
returns-clause-fault g c = fault_rose _ c.remove.result c.text_reply.result c.text_reply.ensures.fault c.remove.ensures.fault
