use Rattle.std.proofs.Common.{refl}
use Rattle.desk_requests.specs.declared.decision.Command.TheVariants.{Trees}
use Rattle.workbench_core.specs.Trees.{IsTreesOf}
use Rattle.workbench_store.specs.Projects.{IsForProject, Reads}
use Rattle.desk_clerk.proofs.ReplyLemmas.{text_replied, fault_rose}
use Rattle.desk_clerk.proofs.replies.trees_reply.Goals as goal

pub returns-clause-replied : goal.returns-clause-replied
returns-clause-replied g c = λ n.
    text_replied (Trees c.args.name.now) (Reads (IsForProject IsTreesOf c.args.name.now)) (λ k next a h. h) (λ v. v.items) n _ _ c.trees.result c.text_reply.result (λ k t. refl) refl (λ a. refl) c.trees.ensures.done c.text_reply.ensures.page

pub returns-clause-fault : goal.returns-clause-fault
returns-clause-fault g c = fault_rose _ c.trees.result c.text_reply.result c.text_reply.ensures.fault c.trees.ensures.fault
