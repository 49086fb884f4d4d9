use Rattle.std.proofs.Common.{◌≡◌, ◌+◌, map, take, arith}
use Rattle.workbench_store.specs.Audit.{row_count}
use Rattle.workbench_store.specs.Pages.{page_of}
use Rattle.workbench_store.proofs.AuditLemmas.{more_rows}
use Rattle.workbench_store.proofs.auditing.count_rows.Goals as goal

pub loop-page-preserved : goal.loop-page-preserved
loop-page-preserved c =
    let more = more_rows page_of c.args.pages.now c.loop-page.page-index c.page-item.result c.loop-page-test.true c.page-item.is in
    let sum : c.in-Some.more ≡ row_count (map page_of (take (c.loop-page.page-index + 1) c.args.pages.now)) = omega (arith, more, c.in-Some.ensures.1, c.rows_in.ensures, c.loop-page.invariant) in
    sum
