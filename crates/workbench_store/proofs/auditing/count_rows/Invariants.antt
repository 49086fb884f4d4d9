use Rattle.std.proofs.Common.{◌≡◌, map, take}
use Rattle.workbench_store.specs.Audit.{row_count}
use Rattle.workbench_store.specs.Pages.{page_of}
use Rattle.workbench_store.proofs.auditing.count_rows.Given as goal

abbrev pub invariant-loop-page : goal.invariant-loop-page
invariant-loop-page l = l.count ≡ row_count (map page_of (take l.page-index l.pages))
