use Rattle.workbench_store.specs.Pages.{page_of}
use Rattle.std.proofs.Common.{map}
use Rattle.workbench_store.proofs.AuditLemmas.{all_pages}
use Rattle.workbench_store.proofs.auditing.stored_pages.Goals as goal

pub returns-clause-pages : goal.returns-clause-pages
returns-clause-pages g c = all_pages (λ c. c.items) (λ ps. map page_of ps.items) _ _ c.in_ok-contexts.contexts.items c.deref.result.now c.pages_for.result c.in_ok-contexts.ensures.stays c.deref.ensures.value c.in_ok-contexts.ensures.contexts c.pages_for.ensures.pages
