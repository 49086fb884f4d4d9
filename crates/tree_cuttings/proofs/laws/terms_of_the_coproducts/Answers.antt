use Rattle.tree_cuttings.proofs.Terms.{extraction_sums, extraction_ascending, extraction_positive, recentring_sums, recentring_ascending, recentring_positive}
use Rattle.tree_cuttings.proofs.laws.terms_of_the_coproducts.Goals as goal

pub returns-clause-extraction : goal.returns-clause-extraction
returns-clause-extraction c = extraction_sums

pub returns-clause-extraction_order : goal.returns-clause-extraction_order
returns-clause-extraction_order c = extraction_ascending

pub returns-clause-extraction_above : goal.returns-clause-extraction_above
returns-clause-extraction_above c = extraction_positive

pub returns-clause-recentring : goal.returns-clause-recentring
returns-clause-recentring c = recentring_sums

pub returns-clause-recentring_order : goal.returns-clause-recentring_order
returns-clause-recentring_order c = recentring_ascending

pub returns-clause-recentring_above : goal.returns-clause-recentring_above
returns-clause-recentring_above c = recentring_positive
