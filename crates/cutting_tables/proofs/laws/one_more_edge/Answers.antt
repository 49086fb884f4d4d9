use Rattle.cutting_tables.proofs.Closing.{idle_step, touched_step_types, inside_above, outside_above}
use Rattle.cutting_tables.proofs.laws.one_more_edge.Goals as goal

pub returns-clause-idle : goal.returns-clause-idle
returns-clause-idle c = idle_step

pub returns-clause-touched : goal.returns-clause-touched
returns-clause-touched c = touched_step_types

pub returns-clause-inside_above : goal.returns-clause-inside_above
returns-clause-inside_above c = inside_above

pub returns-clause-outside_above : goal.returns-clause-outside_above
returns-clause-outside_above c = outside_above
