use Rattle.std.proofs.Common.{map}
use Rattle.conforming_trees.specs.Conforming.{label}
use Rattle.tree_budgets.proofs.SumBounds.{type_modest, lows_modest}
use Rattle.tree_budgets.proofs.lows.brought.Goals as goal

pub plus-requires-clause-d : goal.plus-requires-clause-d
plus-requires-clause-d c = type_modest c.args.types.now c.args.kernel.0 c.type_degree.result c.requires.types c.type_degree.ensures

pub plus-requires-clause-e : goal.plus-requires-clause-e
plus-requires-clause-e c =
    lows_modest c.args.types.now c.args.lows.now (map label c.as_slice.result.now) c.lows_of.result c.requires.types c.requires.lows (rw c.as_slice.ensures c.requires.usable) c.lows_of.ensures
