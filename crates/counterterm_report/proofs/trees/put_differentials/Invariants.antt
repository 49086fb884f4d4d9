use Rattle.std.proofs.Common.{◌≡◌, ◌++◌, drop}
use Rattle.counterterm_report.specs.Report.{differential_lines}
use Rattle.counterterm_report.proofs.trees.put_differentials.Given as goal

abbrev pub invariant-loop-i : goal.invariant-loop-i
invariant-loop-i l = l.out.items ++ differential_lines l.eq (drop l.i l.unknowns) (drop l.i l.values) ≡ l.fn.out.items ++ differential_lines l.eq l.unknowns l.values
