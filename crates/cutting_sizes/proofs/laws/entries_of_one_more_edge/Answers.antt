use Rattle.cutting_sizes.proofs.Steps.{step_inside, step_outside, step_idle, close_idle, close_component, rooted_inside, rooted_outside}
use Rattle.cutting_sizes.proofs.laws.entries_of_one_more_edge.Goals as goal

pub returns-clause-inside : goal.returns-clause-inside
returns-clause-inside c = step_inside

pub returns-clause-outside : goal.returns-clause-outside
returns-clause-outside c = λ good w s. step_outside good w s

pub returns-clause-idle : goal.returns-clause-idle
returns-clause-idle c = step_idle

pub returns-clause-closed_idle : goal.returns-clause-closed_idle
returns-clause-closed_idle c = close_idle

pub returns-clause-closed_component : goal.returns-clause-closed_component
returns-clause-closed_component c = close_component

pub returns-clause-rooted_inside : goal.returns-clause-rooted_inside
returns-clause-rooted_inside c = rooted_inside

pub returns-clause-rooted_outside : goal.returns-clause-rooted_outside
returns-clause-rooted_outside c = rooted_outside
