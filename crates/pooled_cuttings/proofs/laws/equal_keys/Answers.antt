use Rattle.pooled_cuttings.proofs.SameKeys.{opened_same, extracted_same, recentred_same}
use Rattle.pooled_cuttings.proofs.laws.equal_keys.Goals as goal

pub returns-clause-opened : goal.returns-clause-opened
returns-clause-opened c = opened_same

pub returns-clause-extracted : goal.returns-clause-extracted
returns-clause-extracted c = extracted_same

pub returns-clause-recentred : goal.returns-clause-recentred
returns-clause-recentred c = recentred_same
