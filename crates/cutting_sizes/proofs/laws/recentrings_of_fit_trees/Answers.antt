use Rattle.cutting_sizes.proofs.Recentred.{rooted_small, recentring_small}
use Rattle.cutting_sizes.proofs.laws.recentrings_of_fit_trees.Goals as goal

pub returns-clause-entries : goal.returns-clause-entries
returns-clause-entries c = rooted_small

pub returns-clause-terms : goal.returns-clause-terms
returns-clause-terms c = recentring_small
