use Rattle.differential_examples.proofs.Evaluated.{kpz_are, derivatives_are, phi43_are}
use Rattle.differential_examples.proofs.rows.rows_law.Goals as goal

pub returns-clause-kpz : goal.returns-clause-kpz
returns-clause-kpz c = kpz_are

pub returns-clause-derivatives : goal.returns-clause-derivatives
returns-clause-derivatives c = derivatives_are

pub returns-clause-phi43 : goal.returns-clause-phi43
returns-clause-phi43 c = phi43_are
