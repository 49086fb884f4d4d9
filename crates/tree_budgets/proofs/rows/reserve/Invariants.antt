use Rattle.std.proofs.Common.{take}
use Rattle.conforming_trees.specs.Conforming.{labels}
use Rattle.tree_budgets.proofs.Reserves.{IsLeastSoFar}
use Rattle.tree_budgets.proofs.rows.reserve.Given as goal

abbrev pub invariant-loop-longer : goal.invariant-loop-longer
invariant-loop-longer l = IsLeastSoFar l.eq.types l.lows l.row (labels l.node) (take l.longer-index l.longer-items) l.least
