use Rattle.std.proofs.Common.{map, ap, IfSome, subst, sym, ◌≡◌}
use Rattle.workbench_store.specs.Audit.{pages_of}
use Rattle.workbench_store.specs.Pages.{page_of}
use Rattle.workbench_store.proofs.AuditLemmas.{old_rows, rows_audited}
use Rattle.workbench_store.proofs.SteppedLemmas.{stays_itself}
use Rattle.workbench_store.proofs.auditing.audit.Goals as goal

pub returns-then-version-eq1-clause-done : goal.returns-then-version-eq1-clause-done
returns-then-version-eq1-clause-done g c = old_rows _ _ (stays_itself _) c.version.result c.if-version-eq1.true c.version.ensures.told

pub returns-clause-done : goal.returns-clause-done
returns-clause-done g c =
    let told = g.K.Keeper.told c.args.keeper.now in
    rows_audited _ _ c.in_ok-pages.ensures.stays (λ v. v.items) c.version.result (map page_of c.deref.result.now) c.audit_pages.result c.if-version-eq1.false c.version.ensures.told
    (subst (λ ps. IfSome told (λ k. map page_of ps ≡ pages_of k)) (sym c.deref.ensures.value) c.in_ok-pages.ensures.pages) c.audit_pages.ensures.text c.audit_pages.ensures.refused
