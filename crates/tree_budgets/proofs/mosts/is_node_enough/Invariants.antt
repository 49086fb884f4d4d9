use Rattle.std.proofs.Common.{take}
use Rattle.std.specs.List.{All}
use Rattle.tree_budgets.specs.Bounds.{IsEnough}
use Rattle.tree_budgets.proofs.mosts.is_node_enough.Given as goal

abbrev pub invariant-loop-edge : goal.invariant-loop-edge
invariant-loop-edge l = All (IsEnough l.types l.lows l.mosts l.kernel.0 l.node.edges) (take l.edge-index l.edge-items)
