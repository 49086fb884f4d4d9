use Rattle.std.proofs.Common.{sym, subst}
use Rattle.tree_budgets.specs.Fronts.{AreExtensions}
use Rattle.tree_budgets.proofs.Extensions.{none_yet}
use Rattle.tree_budgets.proofs.rows.extensions.Goals as goal

pub loop-i-init : goal.loop-i-init
loop-i-init c = subst (AreExtensions c.args.row.now.nodes c.args.node.now.edges 0) (sym c.new-extensions.ensures) (none_yet c.args.row.now.nodes c.args.node.now.edges)
