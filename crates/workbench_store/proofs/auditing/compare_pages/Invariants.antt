use Rattle.std.proofs.Common.{map, take}
use Rattle.std.specs.List.{AllByRecursion}
use Rattle.workbench_store.specs.Audit.{IsTruePage}
use Rattle.workbench_store.specs.Pages.{page_of}
use Rattle.workbench_store.proofs.auditing.compare_pages.Given as goal

abbrev pub invariant-loop-page : goal.invariant-loop-page
invariant-loop-page l = AllByRecursion IsTruePage (map page_of (take l.page-index l.pages))
