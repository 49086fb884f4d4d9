use Rattle.tree_budgets.proofs.Regular.{slack_fits}
use Rattle.tree_budgets.proofs.bounds.slack.Goals as goal

pub minus-requires-clause-a_fits : goal.minus-requires-clause-a_fits
minus-requires-clause-a_fits c = rw (c.type_degree.ensures, c.regular_low.ensures) ((slack_fits c.args.eq.now c.requires c.args.kind.0).0)

pub minus-requires-clause-b_fits : goal.minus-requires-clause-b_fits
minus-requires-clause-b_fits c = rw (c.type_degree.ensures, c.regular_low.ensures) ((slack_fits c.args.eq.now c.requires c.args.kind.0).1)
