use Rattle.cutting_tables.proofs.Rooted.{recentred_are, recentring_table_terms}
use Rattle.cutting_tables.proofs.laws.recentring_tables_are_the_terms.Goals as goal

pub returns-clause-sums : goal.returns-clause-sums
returns-clause-sums c = recentred_are

pub returns-clause-terms : goal.returns-clause-terms
returns-clause-terms c = recentring_table_terms
