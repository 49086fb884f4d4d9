use Rattle.std.proofs.Common.{ap, ◌∙◌}
use Rattle.tree_budgets.specs.Bounds.{regular_low}
use Rattle.tree_budgets.proofs.Regular.{number_more}
use Rattle.tree_budgets.proofs.bounds.regular_lows.Goals as goal

pub loop-k-preserved : goal.loop-k-preserved
loop-k-preserved c =
    c.in_ok-push.ensures.ok ∙ number_more (regular_low c.args.eq.now) c.loop-k.k c.loop-k.lows c.regular_low.result c.loop-k.invariant (c.regular_low.ensures ∙ ap (regular_low c.args.eq.now) c.type_at.ensures)
