use Rattle.tree_budgets.specs.Bounds.{IsSlackMost}
use Rattle.tree_budgets.proofs.bounds.greatest_slack.Given as goal

abbrev pub invariant-loop-k : goal.invariant-loop-k
invariant-loop-k l = IsSlackMost l.eq l.k l.greatest
