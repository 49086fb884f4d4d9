use Rattle.std.proofs.Common.{◌≡◌, ◌^◌}
use Rattle.exact_sums.specs.Saturating.{saturated}
use Rattle.coefficient_bounds.proofs.sums.power.Given as goal

abbrev pub invariant-loop : goal.invariant-loop
invariant-loop l = l.value ≡ saturated (l.fn.base ^ l.counter)
