use Rattle.tree_budgets.specs.Fronts.{AreExtensions}
use Rattle.tree_budgets.proofs.rows.extensions.Given as goal

abbrev pub invariant-loop-i : goal.invariant-loop-i
invariant-loop-i l = AreExtensions l.row.nodes l.node.edges l.i l.extensions
