use Rattle.std.proofs.Common.{map, take, drop, suc, subst}
use Rattle.std.specs.List.{AllByRecursion}
use Rattle.std.proofs.lemmas.Result.{err_from_is_err_and}
use Rattle.workbench_store.specs.Audit.{IsReadPage, IsTruePage, IsFalsePage}
use Rattle.workbench_store.specs.Pages.{page_of}
use Rattle.workbench_store.proofs.AuditLemmas.{first_page, page_at, parts_at}
use Rattle.workbench_store.proofs.auditing.compare_pages.Goals as goal

pub compare_page-requires : goal.compare_page-requires
compare_page-requires c =
    let ps = c.args.pages.now in
    let i = c.loop-page.page-index in
    page_at IsReadPage (map page_of (take i ps)) (map page_of (drop (suc i) ps)) (page_of c.page-item.result)
    (subst (AllByRecursion IsReadPage) (parts_at page_of ps i c.page-item.result c.loop-page-test.true c.page-item.is) c.requires)

pub returns-in_err-compare_page-clause-refused : goal.returns-in_err-compare_page-clause-refused
returns-in_err-compare_page-clause-refused c =
    let p = err_from_is_err_and c.from_residual.result c.from_residual.ensures.1 in
    let ps = c.args.pages.now in
    let i = c.loop-page.page-index in
    let e = c.in_err-compare_page.field-0.0 in
    rw (p.1, p.2) (first_page IsTruePage (λ p. IsFalsePage p e) (map page_of ps) (map page_of (take i ps)) (map page_of (drop (suc i) ps)) (page_of c.page-item.result) e
    (parts_at page_of ps i c.page-item.result c.loop-page-test.true c.page-item.is) c.loop-page.invariant c.in_err-compare_page.ensures.refused)
