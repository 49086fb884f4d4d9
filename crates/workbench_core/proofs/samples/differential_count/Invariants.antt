use Rattle.std.proofs.Common.{◌≡◌, ◌≤◌, take}
use Rattle.std.specs.List.{count_by}
use Rattle.workbench_core.specs.Sample.{has_differential}
use Rattle.workbench_core.proofs.samples.differential_count.Given as goal

-- the differentials so far were counted
abbrev pub invariant-loop-differential : goal.invariant-loop-differential
invariant-loop-differential l = (l.count ≡ count_by has_differential (take l.differential-index l.differentials)) × (l.count ≤ l.differential-index)
