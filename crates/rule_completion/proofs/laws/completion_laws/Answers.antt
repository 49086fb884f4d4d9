use Rattle.rule_completion.proofs.Unique.{one_completion, one_stage_fault, completed_has_none}
use Rattle.rule_completion.proofs.Stages.{next_unique, stage_unique}
use Rattle.rule_completion.proofs.laws.completion_laws.Goals as goal

pub returns-clause-next : goal.returns-clause-next
returns-clause-next c = λ eq rule next other equation. next_unique eq equation rule next other

pub returns-clause-stages : goal.returns-clause-stages
returns-clause-stages c = λ eq base rule other j equation. stage_unique eq equation base rule other j

pub returns-clause-one : goal.returns-clause-one
returns-clause-one c = λ eq base rule other i j equation. one_completion eq equation base rule other i j

pub returns-clause-fault : goal.returns-clause-fault
returns-clause-fault c = λ eq base i j f g equation. one_stage_fault eq equation base i j f g

pub returns-clause-no_fault : goal.returns-clause-no_fault
returns-clause-no_fault c = λ eq base rule i j f equation. completed_has_none eq equation base rule i j f
