use Rattle.std.proofs.Common.{map, subst, ap}
use Rattle.result_keeper.specs.Entries.{pair_of}
use Rattle.stored_constants.specs.Sound.{IsFirstFalse}
use Rattle.stored_constants.specs.Audits.{IsAuditRefused}
use Rattle.workbench_store.specs.Pages.{page_of}
use Rattle.workbench_store.proofs.AuditLemmas.{false_page}
use Rattle.workbench_store.proofs.auditing.compare_over.Goals as goal

pub returns-in-Err-False-clause-refused : goal.returns-in-Err-False-clause-refused
returns-in-Err-False-clause-refused c =
    let first : IsFirstFalse c.args.types.now (map pair_of c.deref.result.now) c.in-Err-False.place c.in-Err-False.cause = subst (IsAuditRefused c.args.types.now (map pair_of c.deref.result.now)) c.in-Err-False.field-0-is c.in-Err-False.ensures.refused in
    false_page (page_of c.args.page.now) c.args.types.now c.requires.types c.requires.context c.in-Err-False.place c.in-Err-False.cause
    (subst (λ rows. IsFirstFalse c.args.types.now rows c.in-Err-False.place c.in-Err-False.cause) (ap (map pair_of) c.deref.ensures.value) first)
    c.false_row.result c.false_row.ensures
