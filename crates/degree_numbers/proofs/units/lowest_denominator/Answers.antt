use Rattle.degree_numbers.proofs.LowestLemmas.{gcd_above}
use Rattle.degree_numbers.proofs.Common.{separated}
use Rattle.degree_numbers.proofs.units.lowest_denominator.Goals as goal

pub nonzero_div-result : goal.nonzero_div-result
nonzero_div-result c = gcd_above _ _ _ c.gcd.ensures c.requires

pub returns : goal.returns
returns c = separated c.args.num c.args.den c.gcd.result c.gcd.ensures c.requires
