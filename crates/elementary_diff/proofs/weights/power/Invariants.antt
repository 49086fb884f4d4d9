use Rattle.std.proofs.Common.{◌≡◌, ◌^◌}
use Rattle.exact_sums.specs.Saturating.{saturated}
use Rattle.elementary_diff.proofs.weights.power.Given as goal

abbrev pub invariant-loop : goal.invariant-loop
invariant-loop l = l.power ≡ saturated (l.base ^ l.counter)
