use Rattle.std.proofs.Common.{◌≡◌, ◌++◌, take, List, ℕ}
use Rattle.counterterm_report.specs.Report.{AreTreeTexts}
use Rattle.counterterm_report.proofs.trees.put_trees.Given as goal

-- the lines of the trees so far were written
abbrev pub invariant-loop-i : goal.invariant-loop-i
invariant-loop-i l = (piece : List ℕ) × AreTreeTexts l.eq 1 (take l.i l.trees) piece × (l.out.items ≡ l.fn.out.items ++ piece)
