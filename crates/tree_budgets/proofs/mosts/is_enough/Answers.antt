use Rattle.std.proofs.Common.{map}
use Rattle.conforming_trees.specs.Conforming.{label}
use Rattle.tree_budgets.proofs.SumBounds.{lows_modest}
use Rattle.tree_budgets.proofs.TypeLists.{type_bounded}
use Rattle.tree_budgets.proofs.mosts.is_enough.Goals as goal

pub fits-requires-clause-degree : goal.fits-requires-clause-degree
fits-requires-clause-degree c = type_bounded c.args.types.now c.args.edge.now.kind.0 c.type_degree.result c.requires.types c.type_degree.ensures

pub fits-requires-clause-total : goal.fits-requires-clause-total
fits-requires-clause-total c =
    lows_modest c.args.types.now c.args.lows.now (map label c.as_slice.result.now) c.lows_of-total.result c.requires.types c.requires.lows (rw c.as_slice.ensures c.requires.usable) c.lows_of-total.ensures
