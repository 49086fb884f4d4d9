use Rattle.std.proofs.Common.{◌≡◌, ◌++◌, take, List, ℕ}
use Rattle.workbench_core.specs.CheckText.{AreRowTexts}
use Rattle.workbench_core.proofs.text.push_rows.Given as goal

-- the texts of the rows so far were written
abbrev pub invariant-loop-row : goal.invariant-loop-row
invariant-loop-row l = (piece : List ℕ) × AreRowTexts l.eq (take l.row-index l.rows) piece × (l.text.items ≡ l.fn.text.items ++ piece)
