use Rattle.std.proofs.Common.{map, get_or, sym}
use Rattle.conforming_trees.specs.Conforming.{label}
use Rattle.tree_budgets.proofs.Loops.{no_edge}
use Rattle.tree_budgets.proofs.SumBounds.{lows_modest}
use Rattle.tree_budgets.proofs.TypeLists.{type_bounded, kernel_known}
use Rattle.tree_budgets.proofs.mosts.raise.Goals as goal

pub left-left-requires-clause-degree : goal.left-left-requires-clause-degree
left-left-requires-clause-degree c = type_bounded c.args.types.now (get_or c.as_slice-edge-items.result.now c.loop-edge.edge-index no_edge).kind.0 c.type_degree.result c.requires.types c.type_degree.ensures

pub left-left-requires-clause-total : goal.left-left-requires-clause-total
left-left-requires-clause-total c =
    lows_modest c.args.types.now c.args.lows.now (map label c.as_slice.result.now) c.lows_of-total.result c.requires.types c.requires.lows (rw c.as_slice.ensures c.requires.usable) c.lows_of-total.ensures

pub raise_to-requires-clause-known : goal.raise_to-requires-clause-known
raise_to-requires-clause-known c = kernel_known c.args.types.now (get_or c.as_slice-edge-items.result.now c.loop-edge.edge-index no_edge).kind.0 (sym c.if-is_kernel_type.ensures)
