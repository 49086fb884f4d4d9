use Rattle.cutting_tables.proofs.Closing.{closed_step, closed_terms_are, extraction_table_terms}
use Rattle.cutting_tables.proofs.laws.closed_tables_are_the_terms.Goals as goal

pub returns-clause-live : goal.returns-clause-live
returns-clause-live c = λ ty n b t idle touched enough h g. closed_step ty n b t enough idle touched h g

pub returns-clause-sums : goal.returns-clause-sums
returns-clause-sums c = λ ty n t types most. closed_terms_are ty n 0 t types most

pub returns-clause-terms : goal.returns-clause-terms
returns-clause-terms c = extraction_table_terms
