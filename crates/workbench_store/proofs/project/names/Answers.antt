use Rattle.std.proofs.Common.{codes, flat_map, ◌++◌, ap, ◌∙◌}
use Rattle.workbench_store.proofs.ProjectLemmas.{named}
use Rattle.workbench_store.proofs.project.names.Goals as goal

pub returns-in_ok-name_lines-in-Ok-clause-done : goal.returns-in_ok-name_lines-in-Ok-clause-done
returns-in_ok-name_lines-in-Ok-clause-done g c =
    named _ _ c.in-Ok.names.items c.in_ok-name_lines-in-Ok.field-0.items c.names.ensures.stays c.in-Ok.ensures.names (c.in_ok-name_lines-in-Ok.ensures ∙ ap (flat_map (λ name. name ++ codes "\n")) c.deref.ensures.value)
