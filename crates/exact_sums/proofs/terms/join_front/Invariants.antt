use Rattle.std.proofs.Common.{◌≡◌, ◌<◌, ◌++◌, length, take, drop}
use Rattle.exact_sums.specs.Keyed.{joined_neighbours}
use Rattle.exact_sums.proofs.terms.join_front.Given as goal

abbrev pub invariant-loop-i : goal.invariant-loop-i
invariant-loop-i g l = record {
  below : l.last < l.i;
  end : l.i-end ≡ length l.terms;
  whole : take l.last l.terms ++ joined_neighbours g.K.PartialEq.eq (take 1 (drop l.last l.terms) ++ drop l.i l.terms) ≡ joined_neighbours g.K.PartialEq.eq l.fn.terms;
}
