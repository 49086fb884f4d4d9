use Rattle.tree_pool.proofs.Ids.{fits_grown}
use Rattle.tree_pool.proofs.laws.fit_laws.Goals as goal

pub returns-clause-growth : goal.returns-clause-growth
returns-clause-growth c = fits_grown
