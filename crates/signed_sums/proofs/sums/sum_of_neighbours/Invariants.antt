use Rattle.std.proofs.Common.{◌≡◌, ◌≤◌, ◌+◌, ◌++◌, drop, unsigned_abs}
use Rattle.signed_sums.specs.Signed.{size_of, join_onto, joined, without_zeros}
use Rattle.signed_sums.proofs.sums.sum_of_neighbours.Given as goal

abbrev pub invariant-loop-next : goal.invariant-loop-next
invariant-loop-next g l =
    record {
      whole : l.sums.items ++ without_zeros (join_onto g.K.PartialEq.eq l.open (drop l.next-index l.rest)) ≡ without_zeros (joined g.K.PartialEq.eq l.fn.terms);
      size : unsigned_abs l.open.1 + size_of (drop l.next-index l.rest) ≤ size_of l.fn.terms;
    }
