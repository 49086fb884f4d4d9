use Rattle.std.proofs.Common.{◌≡◌, ◌≤◌, ◌+◌, ◌+ℤ◌, drop, unsigned_abs}
use Rattle.signed_sums.specs.Signed.{size_of}
use Rattle.characters.specs.Sums.{sum_of}
use Rattle.characters.proofs.summing.sum_of.Given as goal

abbrev pub invariant-loop-term : goal.invariant-loop-term
invariant-loop-term l =
    record {
      sum : l.sum +ℤ sum_of (drop l.term-index l.terms) ≡ sum_of l.terms;
      size : unsigned_abs l.sum + size_of (drop l.term-index l.terms) ≤ size_of l.terms;
    }
