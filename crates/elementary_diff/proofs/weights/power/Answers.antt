use Rattle.std.proofs.Common.{◌∙◌}
use Rattle.elementary_diff.proofs.NodeWalks.{power-step}
use Rattle.elementary_diff.proofs.weights.power.Goals as goal

pub loop-preserved : goal.loop-preserved
loop-preserved c = c.times-power.ensures ∙ power-step c.args.base c.loop.counter c.loop.power c.loop.invariant
