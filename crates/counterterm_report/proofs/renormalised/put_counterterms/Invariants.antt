use Rattle.std.proofs.Common.{◌≡◌, ◌++◌, drop}
use Rattle.counterterm_report.specs.Report.{counterterm_lines}
use Rattle.counterterm_report.proofs.renormalised.put_counterterms.Given as goal

abbrev pub invariant-loop-v : goal.invariant-loop-v
invariant-loop-v l = l.out.items ++ counterterm_lines l.eq l.number (drop l.v-index l.trees) ≡ l.fn.out.items ++ counterterm_lines l.eq l.number l.trees
