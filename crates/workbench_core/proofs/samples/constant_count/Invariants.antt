use Rattle.std.proofs.Common.{◌≡◌, ◌≤◌, take}
use Rattle.std.specs.List.{count_by}
use Rattle.workbench_core.specs.Sample.{has_constant}
use Rattle.workbench_core.proofs.samples.constant_count.Given as goal

-- the constants of the trees so far were counted, each tree once
abbrev pub invariant-loop-values : goal.invariant-loop-values
invariant-loop-values l = (l.count ≡ count_by has_constant (take l.values-index l.trees)) × (l.count ≤ l.values-index)
