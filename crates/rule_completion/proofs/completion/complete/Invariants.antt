use Rattle.std.proofs.Common.{◌-◌}
use Rattle.std.specs.Prelude.{unwrap_or}
use Rattle.tree_pool.specs.Content.{IsGrown}
use Rattle.rule_completion.proofs.Stages.{IsAtStage}
use Rattle.rule_completion.proofs.completion.complete.Given as goal

abbrev pub decreases-loop-reached : goal.decreases-loop-reached
decreases-loop-reached l = 2001 - l.stage

abbrev pub invariant-loop-reached : goal.invariant-loop-reached
invariant-loop-reached l = record { grown : IsGrown l.fn.pool l.pool; at : IsAtStage l.eq l.base l.stage (unwrap_or l.reached l.base) }
