use Rattle.antipode_laws.proofs.Masses.{mass_above, overflow_above}
use Rattle.antipode_laws.proofs.laws.antipode_masses.Goals as goal

pub returns-clause-above : goal.returns-clause-above
returns-clause-above c = mass_above

pub returns-clause-overflow : goal.returns-clause-overflow
returns-clause-overflow c = overflow_above
