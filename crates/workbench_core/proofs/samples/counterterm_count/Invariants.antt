use Rattle.std.proofs.Common.{◌≡◌, ◌≤◌, ◌*◌, take}
use Rattle.std.specs.List.{sum_by}
use Rattle.workbench_core.specs.Sample.{line_count}
use Rattle.workbench_core.proofs.samples.counterterm_count.Given as goal

-- the counterterms of the trees so far were counted; each tree has as many as fit a number of the
-- program
abbrev pub invariant-loop-values : goal.invariant-loop-values
invariant-loop-values l = (l.count ≡ sum_by line_count (take l.values-index l.trees)) × (l.count ≤ l.values-index * 18446744073709551615)
