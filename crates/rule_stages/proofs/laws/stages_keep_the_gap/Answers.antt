use Rattle.rule_stages.proofs.KeptGap.{stage_subcritical, stage_gap}
use Rattle.rule_stages.proofs.laws.stages_keep_the_gap.Goals as goal

pub returns-clause-subcritical : goal.returns-clause-subcritical
returns-clause-subcritical c = stage_subcritical

pub returns-clause-gap : goal.returns-clause-gap
returns-clause-gap c = stage_gap
