use Rattle.std.proofs.Common.{ap, ◌∙◌}
use Rattle.tree_budgets.specs.Bounds.{regular_most}
use Rattle.tree_budgets.proofs.Regular.{number_more}
use Rattle.tree_budgets.proofs.bounds.regular_mosts.Goals as goal

pub loop-k-preserved : goal.loop-k-preserved
loop-k-preserved c =
    c.in_ok-push.ensures.ok
    ∙ number_more (regular_most c.args.eq.now c.args.greatest.now) c.loop-k.k c.loop-k.mosts c.regular_most.result c.loop-k.invariant (c.regular_most.ensures ∙ ap (regular_most c.args.eq.now c.args.greatest.now) c.type_at.ensures)
