use Rattle.degree_numbers.proofs.Kept.{lowest_kept}
use Rattle.degree_numbers.proofs.reading.read_degree.Goals as goal

pub invariant_of-result-clause-a_lowest : goal.invariant_of-result-clause-a_lowest
invariant_of-result-clause-a_lowest c =
    let a = c.reduced-a.result in
    lowest_kept a.num a.den a.num_fits a.den_above a.den_fits a.lowest

pub invariant_of-result-clause-b_lowest : goal.invariant_of-result-clause-b_lowest
invariant_of-result-clause-b_lowest c =
    let b = c.reduced-b.result in
    lowest_kept b.num b.den b.num_fits b.den_above b.den_fits b.lowest
