use Rattle.tree_budgets.proofs.Regular.{most_fits}
use Rattle.tree_budgets.proofs.bounds.regular_most.Goals as goal

pub minus-requires-clause-a_fits : goal.minus-requires-clause-a_fits
minus-requires-clause-a_fits c = rw c.slack.ensures ((most_fits c.args.eq.now c.requires.equation c.args.greatest.now c.args.kind.0 c.requires.a c.requires.b).0)

pub minus-requires-clause-b_fits : goal.minus-requires-clause-b_fits
minus-requires-clause-b_fits c = rw c.slack.ensures ((most_fits c.args.eq.now c.requires.equation c.args.greatest.now c.args.kind.0 c.requires.a c.requires.b).1)
