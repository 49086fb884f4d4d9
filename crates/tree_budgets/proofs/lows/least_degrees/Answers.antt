use Rattle.std.proofs.Common.{sym, subst}
use Rattle.tree_budgets.specs.Bounds.{AreTypeBounds}
use Rattle.tree_budgets.proofs.TypeLists.{type_degrees_are}
use Rattle.tree_budgets.proofs.lows.least_degrees.Goals as goal

pub loop-init : goal.loop-init
loop-init c = subst (AreTypeBounds c.args.eq.now.types) (sym c.in_ok-lows.ensures) (type_degrees_are c.args.eq.now.types c.requires.equation.types)
