use Rattle.antipode_laws.proofs.RunLaws.{run_terms, run_mass, sum_of_both, mass_of_both}
use Rattle.antipode_laws.proofs.laws.sums_by_runs.Goals as goal

pub returns-clause-terms : goal.returns-clause-terms
returns-clause-terms c = run_terms

pub returns-clause-masses : goal.returns-clause-masses
returns-clause-masses c = run_mass

pub returns-clause-terms_of_both : goal.returns-clause-terms_of_both
returns-clause-terms_of_both c = sum_of_both

pub returns-clause-mass_of_both : goal.returns-clause-mass_of_both
returns-clause-mass_of_both c = mass_of_both
