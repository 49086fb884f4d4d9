use Rattle.std.proofs.Common.{◌≡◌, IfOk, subst}
use Rattle.http_desk.specs.Pages.{page_of}
use Rattle.http_desk.specs.Replies.{names_page}
use Rattle.desk_clerk.proofs.ReplyLemmas.{names_done}
use Rattle.desk_clerk.proofs.replies.names_reply.Goals as goal

pub returns-in-Ok-clause-replied : goal.returns-in-Ok-clause-replied
returns-in-Ok-clause-replied g c = λ n.
    names_done n _ _ c.in-Ok.names.items c.of_names.result c.names.ensures.stays c.in-Ok.ensures.names
    (subst (λ ns. IfOk c.of_names.result (λ r. page_of r ≡ names_page ns)) c.deref.ensures.value c.of_names.ensures)
