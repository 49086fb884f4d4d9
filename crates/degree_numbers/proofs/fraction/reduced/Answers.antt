use Rattle.std.proofs.Common.{arith}
use Rattle.degree_numbers.proofs.Kept.{reduced_kept}
use Rattle.degree_numbers.proofs.fraction.reduced.Goals as goal

pub invariant_of-result-clause-lowest : goal.invariant_of-result-clause-lowest
invariant_of-result-clause-lowest c =
    let low = c.lowest-size.ensures in
    reduced_kept _ _ c.under_sign.result c.under_sign-2.result c.under_sign.ensures.size c.under_sign-2.ensures.value (omega (arith, low.num_falls, c.requires.num)) low.lowest.den_above (omega (arith, low.den_falls, c.requires.den)) low.lowest.in_lowest
