use Rattle.rule_steps.proofs.StepsNext.{next_is}
use Rattle.rule_steps.proofs.step.next_stage.Goals as goal

pub returns-clause-next : goal.returns-clause-next
returns-clause-next c = next_is c.args.eq.now c.args.rule.now c.requires.equation c.requires.rule _ c.in_ok-rows.ensures.rows.kernels c.in_ok-rows.ensures.rows.next
