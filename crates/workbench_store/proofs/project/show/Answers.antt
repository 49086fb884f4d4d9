use Rattle.std.proofs.Common.{ap}
use Rattle.result_keeper.specs.Entries.{file_bytes}
use Rattle.workbench_store.proofs.ProjectLemmas.{shown, missing}
use Rattle.workbench_store.proofs.project.show.Goals as goal

pub returns-in-Ok-Some-clause-done : goal.returns-in-Ok-Some-clause-done
returns-in-Ok-Some-clause-done g c = shown c.args.name.now _ _ c.project.ensures.stays (file_bytes c.in-Ok-Some.field-0) c.in-Ok-Some.file.items (ap file_bytes c.in-Ok-Some.field-0-is) c.in-Ok-Some.ensures.file

pub returns-in-Ok-None-clause-done : goal.returns-in-Ok-None-clause-done
returns-in-Ok-None-clause-done g c = missing c.args.name.now _ _ c.project.ensures.stays (file_bytes c.in-Ok-None.field-0) c.no_project.result (ap file_bytes c.in-Ok-None.field-0-is) c.in-Ok-None.ensures.file c.no_project.ensures
