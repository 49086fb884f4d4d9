use Rattle.conforming_trees.specs.Conforming.{labels}
use Rattle.rule_steps.proofs.Bumped.{bumped_step}
use Rattle.rule_steps.proofs.raise.put_bumped.Goals as goal

pub loop-i-preserved : goal.loop-i-preserved
loop-i-preserved c =
    bumped_step c.args.direction c.loop-i.i (labels c.args.node.now) c.args.into.now.items c.loop-i.into.items c.push.new.self.items c.in_ok-bumped.field-0 c.loop-i.invariant c.in_ok-bumped.ensures c.in_ok-push.ensures.items
