use Rattle.std.proofs.Common.{◌≤◌, length, arith}
use Rattle.exact_sums.proofs.KeyedLaws.{joined_neighbours_end}
use Rattle.exact_sums.proofs.terms.join_front.Goals as goal

pub returns : goal.returns
returns g c =
    let xs = c.loop-i.terms in
    let h : length xs ≤ c.loop-i.i = omega arith in
    record { joined = joined_neighbours_end g.K.PartialEq.eq xs _ c.loop-i.last c.loop-i.i h c.loop-i.invariant.whole }
