use Rattle.degree_numbers.proofs.UnitLemmas.{times_kept}
use Rattle.degree_numbers.proofs.units.times.Goals as goal

pub returns-clause-value : goal.returns-clause-value
returns-clause-value c = times_kept c.args.den c.args.unit c.requires.fits
