use Rattle.tree_cuttings.proofs.Within.{extraction_sums_within, extraction_within, recentring_sums_within, recentring_within}
use Rattle.tree_cuttings.proofs.laws.greater_shifts_add_no_term.Goals as goal

pub returns-clause-extraction_sums : goal.returns-clause-extraction_sums
returns-clause-extraction_sums c = extraction_sums_within

pub returns-clause-extraction : goal.returns-clause-extraction
returns-clause-extraction c = extraction_within

pub returns-clause-recentring_sums : goal.returns-clause-recentring_sums
returns-clause-recentring_sums c = recentring_sums_within

pub returns-clause-recentring : goal.returns-clause-recentring
returns-clause-recentring c = recentring_within
