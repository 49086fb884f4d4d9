use Rattle.tree_budgets.proofs.Regular.{regular_bounds_are}
use Rattle.tree_budgets.proofs.bounds.regular_bounds.Goals as goal

pub returns : goal.returns
returns c = rw (c.in_ok-lows.ensures, c.in_ok-mosts.ensures) (regular_bounds_are c.args.eq.now c.requires.equation c.args.rule.now c.greatest_slack-greatest.result c.requires.rule c.requires.holds c.greatest_slack-greatest.ensures)
