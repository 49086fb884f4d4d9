use Rattle.std.proofs.Common.{◌≡◌, ℕ, List, map, take, drop, suc}
use Rattle.std.proofs.lemmas.Result.{err_from_is_err_and}
use Rattle.workbench_core.specs.declared.refusal.Refusal.TheVariants.{StoredRow}
use Rattle.workbench_store.specs.Audit.{IsReadPage, IsUnreadPage}
use Rattle.workbench_store.specs.Pages.{page_of}
use Rattle.workbench_store.proofs.AuditLemmas.{first_page, parts_at}
use Rattle.workbench_store.proofs.auditing.check_pages.Goals as goal

pub returns-in_err-check_page-clause-refused : goal.returns-in_err-check_page-clause-refused
returns-in_err-check_page-clause-refused c =
    let p = err_from_is_err_and c.from_residual.result c.from_residual.ensures.1 in
    let ps = c.args.pages.now in
    let i = c.loop-page.page-index in
    let e = c.in_err-check_page.field-0.0 in
    rw (p.1, p.2) (first_page IsReadPage (λ p. (tree : List ℕ) × IsUnreadPage p tree × (e ≡ StoredRow p.0 tree)) (map page_of ps) (map page_of (take i ps)) (map page_of (drop (suc i) ps)) (page_of c.page-item.result) e
    (parts_at page_of ps i c.page-item.result c.loop-page-test.true c.page-item.is) c.loop-page.invariant c.in_err-check_page.ensures.refused)
