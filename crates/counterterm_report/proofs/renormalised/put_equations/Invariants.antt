use Rattle.std.proofs.Common.{◌≡◌, ◌++◌, take, List, ℕ}
use Rattle.counterterm_report.specs.Report.{AreEquationTexts}
use Rattle.counterterm_report.proofs.renormalised.put_equations.Given as goal

-- the equations of the unknowns so far were written
abbrev pub invariant-loop-i : goal.invariant-loop-i
invariant-loop-i l = (piece : List ℕ) × AreEquationTexts l.eq 0 (take l.i l.unknowns) l.trees piece × (l.out.items ≡ l.fn.out.items ++ piece)
