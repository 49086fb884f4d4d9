use Rattle.degree_numbers.proofs.UnitLemmas.{divides_kept}
use Rattle.degree_numbers.proofs.units.in_units.Goals as goal

pub in_unit-requires-clause-whole : goal.in_unit-requires-clause-whole
in_unit-requires-clause-whole c =
    let w = c.args.w.now in
    divides_kept w.a_den c.args.units.den w.a_den_above w.a_den_fits c.requires.above c.requires.fits c.requires.whole.a

pub in_unit-requires-2-clause-whole : goal.in_unit-requires-2-clause-whole
in_unit-requires-2-clause-whole c =
    let w = c.args.w.now in
    divides_kept w.b_den c.args.units.den w.b_den_above w.b_den_fits c.requires.above c.requires.fits c.requires.whole.b
