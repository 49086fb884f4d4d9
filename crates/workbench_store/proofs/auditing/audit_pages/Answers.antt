use Rattle.std.proofs.Common.{map, ◌∙◌, ap}
use Rattle.std.proofs.lemmas.Result.{err_from_is_err_and}
use Rattle.workbench_store.specs.Audit.{audit_text}
use Rattle.workbench_store.specs.Pages.{page_of}
use Rattle.workbench_store.proofs.AuditLemmas.{audited, unread_pages, false_pages}
use Rattle.workbench_store.proofs.auditing.audit_pages.Goals as goal

pub returns-in_err-check_pages-clause-refused : goal.returns-in_err-check_pages-clause-refused
returns-in_err-check_pages-clause-refused c =
    let p = err_from_is_err_and c.from_residual.result c.from_residual.ensures.1 in
    rw (p.1, p.2) (unread_pages (map page_of c.args.pages.now) c.in_err-check_pages.field-0.0 c.in_err-check_pages.ensures.refused)

pub returns-in_err-compare_pages-clause-refused : goal.returns-in_err-compare_pages-clause-refused
returns-in_err-compare_pages-clause-refused c =
    let p = err_from_is_err_and c.from_residual-in_err-compare_pages.result c.from_residual-in_err-compare_pages.ensures.1 in
    rw (p.1, p.2) (false_pages (map page_of c.args.pages.now) c.in_err-compare_pages.field-0.0 c.in_ok-check_pages.ensures.read c.in_err-compare_pages.ensures.refused)

pub returns-clause-text : goal.returns-clause-text
returns-clause-text c = audited (map page_of c.args.pages.now) c.in_ok-rows_text.field-0.items c.in_ok-compare_pages.ensures.sound (c.in_ok-rows_text.ensures ∙ ap audit_text c.in_ok-count.ensures)
