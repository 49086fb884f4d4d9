use Rattle.std.proofs.Common.{◌≡◌, ◌++◌, take, List, ℕ}
use Rattle.rule_steps.specs.Steps.{trees_of}
use Rattle.workbench_core.specs.TreeList.{AreRows}
use Rattle.workbench_core.proofs.tree_list.put_rows.Given as goal

-- the rows of the trees so far were written
abbrev pub invariant-loop-i : goal.invariant-loop-i
invariant-loop-i l = (piece : List ℕ) × AreRows l.pool.types 1 (trees_of l.pool (take l.i l.ids)) piece × (l.text.items ≡ l.fn.text.items ++ piece)
