use Rattle.workbench_store.proofs.MigrateLemmas.{old_migrated, new_migrated}
use Rattle.workbench_store.proofs.migration.migrate.Goals as goal

pub returns-then-version-eq1-clause-done : goal.returns-then-version-eq1-clause-done
returns-then-version-eq1-clause-done g c = old_migrated (λ v. v.items) _ _ c.version.result c.renew.result c.if-version-eq1.true c.version.ensures.told c.renew.ensures.done

pub returns-in_ok-migrated_text-clause-done : goal.returns-in_ok-migrated_text-clause-done
returns-in_ok-migrated_text-clause-done g c = new_migrated _ c.version.result c.in_ok-migrated_text.field-0.items c.if-version-eq1.false c.version.ensures.told c.in_ok-migrated_text.ensures
