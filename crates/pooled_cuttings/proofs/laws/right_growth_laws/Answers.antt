use Rattle.pooled_cuttings.proofs.Means.{right_lines_grown, right_terms_grown, right_table_grown}
use Rattle.pooled_cuttings.proofs.laws.right_growth_laws.Goals as goal

pub returns-clause-lines : goal.returns-clause-lines
returns-clause-lines c = right_lines_grown

pub returns-clause-terms : goal.returns-clause-terms
returns-clause-terms c = right_terms_grown

pub returns-clause-table : goal.returns-clause-table
returns-clause-table c = right_table_grown
