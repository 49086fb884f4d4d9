use Rattle.std.proofs.Common.{◌≡◌, ◌≤◌, ◌+◌, drop}
use Rattle.exact_sums.specs.Saturating.{overflow, saturated}
use Rattle.signed_sums.specs.Signed.{size_of}
use Rattle.signed_sums.proofs.sums.size.Given as goal

abbrev pub invariant-loop-term : goal.invariant-loop-term
invariant-loop-term g l =
    record {
      within : l.sum ≤ overflow;
      sum : saturated (l.sum + size_of (drop l.term-index l.terms)) ≡ saturated (size_of l.terms);
    }
