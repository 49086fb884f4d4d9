use Rattle.recentring_coproduct.proofs.Grown.{fits_with_growth}
use Rattle.recentring_coproduct.proofs.recentrer.fit_laws.Goals as goal

pub returns-clause-growth : goal.returns-clause-growth
returns-clause-growth c = fits_with_growth
