use Rattle.std.proofs.Common.{subst}
use Rattle.degree_numbers.specs.declared.types.Types.{Types}
use Rattle.degree_numbers.specs.Types.{AreTypes}
use Rattle.type_contexts.specs.Context.{IsContextText}
use Rattle.workbench_store.specs.Pages.{page_of}
use Rattle.workbench_store.proofs.AuditLemmas.{no_types_page}
use Rattle.workbench_store.proofs.auditing.check_page.Goals as goal

pub returns-in-Err-ContextText-clause-refused : goal.returns-in-Err-ContextText-clause-refused
returns-in-Err-ContextText-clause-refused c =
    no_types_page (page_of c.args.page.now) c.unread_row.result
    (subst (λ t. (ty : Types) → AreTypes ty → IsContextText ty t → ⊥) c.deref.ensures.value (c.in-Err-ContextText.ensures.refused c.in-Err-ContextText.field-0-is))
    c.unread_row.ensures
