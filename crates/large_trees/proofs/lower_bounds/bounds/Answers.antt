use Rattle.std.proofs.Common.{sym, subst}
use Rattle.large_trees.specs.Charges.{AreBounds}
use Rattle.large_trees.proofs.TypeBounds.{type_bounds_are}
use Rattle.large_trees.proofs.lower_bounds.bounds.Goals as goal

pub loop-init : goal.loop-init
loop-init c = subst (AreBounds c.args.types.now) (sym c.in_ok-bounds.ensures) (type_bounds_are c.args.types.now c.requires.types)
