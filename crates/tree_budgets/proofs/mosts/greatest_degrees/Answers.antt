use Rattle.std.proofs.Common.{sym, subst}
use Rattle.tree_budgets.specs.Bounds.{IsTypeTable}
use Rattle.tree_budgets.proofs.TypeLists.{zeros_are}
use Rattle.tree_budgets.proofs.mosts.greatest_degrees.Goals as goal

pub loop-init : goal.loop-init
loop-init c = subst (IsTypeTable c.args.types.now) (sym c.in_ok-mosts.ensures) (zeros_are c.args.types.now)
