use Rattle.pooled_cuttings.proofs.Groves.{grove_refl, grove_trans}
use Rattle.pooled_cuttings.proofs.Means.{open_lines_grown, open_terms_grown, extract_lines_grown, extract_terms_grown, tables_grown}
use Rattle.pooled_cuttings.proofs.laws.growth_laws.Goals as goal

pub returns-clause-same : goal.returns-clause-same
returns-clause-same c = grove_refl

pub returns-clause-steps : goal.returns-clause-steps
returns-clause-steps c = grove_trans

pub returns-clause-open_lines : goal.returns-clause-open_lines
returns-clause-open_lines c = open_lines_grown

pub returns-clause-open_terms : goal.returns-clause-open_terms
returns-clause-open_terms c = open_terms_grown

pub returns-clause-extract_lines : goal.returns-clause-extract_lines
returns-clause-extract_lines c = extract_lines_grown

pub returns-clause-extract_terms : goal.returns-clause-extract_terms
returns-clause-extract_terms c = extract_terms_grown

pub returns-clause-tables : goal.returns-clause-tables
returns-clause-tables c = tables_grown
