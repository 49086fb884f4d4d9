use Rattle.workbench_store.proofs.ProjectLemmas.{removed, not_removed}
use Rattle.workbench_store.proofs.project.remove.Goals as goal

pub returns-in-Ok-true-clause-done : goal.returns-in-Ok-true-clause-done
returns-in-Ok-true-clause-done g c = removed c.args.name.now _ _ c.in-Ok-true.ensures.removed c.in-Ok-true.field-0 c.in_ok-text.text.items c.in-Ok-true.field-0-test c.in-Ok-true.ensures.kept c.in_ok-text.ensures

pub returns-in-Ok-false-clause-done : goal.returns-in-Ok-false-clause-done
returns-in-Ok-false-clause-done g c = not_removed c.args.name.now _ _ c.in-Ok-false.ensures.removed c.in-Ok-false.field-0 c.no_project.result c.in-Ok-false.field-0-test c.in-Ok-false.ensures.kept c.no_project.ensures
