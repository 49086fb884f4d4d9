use Rattle.cutting_sizes.proofs.TermSums.{extraction_comes, recentring_comes}
use Rattle.cutting_sizes.proofs.laws.terms_come_from_cuttings.Goals as goal

pub returns-clause-extraction : goal.returns-clause-extraction
returns-clause-extraction c = extraction_comes

pub returns-clause-recentring : goal.returns-clause-recentring
returns-clause-recentring c = recentring_comes
