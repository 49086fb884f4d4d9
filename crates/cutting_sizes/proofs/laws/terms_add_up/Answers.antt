use Rattle.cutting_sizes.proofs.TermSums.{extraction_adds_up, recentring_adds_up}
use Rattle.cutting_sizes.proofs.laws.terms_add_up.Goals as goal

pub returns-clause-extraction : goal.returns-clause-extraction
returns-clause-extraction c = extraction_adds_up

pub returns-clause-recentring : goal.returns-clause-recentring
returns-clause-recentring c = recentring_adds_up
