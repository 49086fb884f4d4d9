use Rattle.std.proofs.Common.{refl}
use Rattle.desk_requests.specs.declared.decision.Command.TheVariants.{Show}
use Rattle.workbench_store.specs.Projects.{IsItself, IsForProject, Reads}
use Rattle.desk_clerk.proofs.ReplyLemmas.{text_replied, fault_rose}
use Rattle.desk_clerk.proofs.replies.show_reply.Goals as goal

pub returns-clause-replied : goal.returns-clause-replied
returns-clause-replied g c = λ n.
    text_replied (Show c.args.name.now) (Reads (IsForProject IsItself c.args.name.now)) (λ k next a h. h) (λ v. v.items) n _ _ c.show.result c.text_reply.result (λ k t. refl) refl (λ a. refl) c.show.ensures.done c.text_reply.ensures.page

pub returns-clause-fault : goal.returns-clause-fault
returns-clause-fault g c = fault_rose _ c.show.result c.text_reply.result c.text_reply.ensures.fault c.show.ensures.fault
