use Rattle.std.proofs.Common.{◌≡◌, ◌++◌, drop}
use Rattle.counterterm_report.specs.Report.{rule_lines}
use Rattle.counterterm_report.proofs.rules.put_rules.Given as goal

abbrev pub invariant-loop-i : goal.invariant-loop-i
invariant-loop-i l = l.out.items ++ rule_lines l.types (drop l.i l.base) (drop l.i l.completed) ≡ l.fn.out.items ++ rule_lines l.types l.base l.completed
