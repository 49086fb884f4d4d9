use Rattle.cutting_sizes.proofs.Bounded.{bounded_parts}
use Rattle.cutting_sizes.proofs.Recentred.{fit_parts, fit_bounded, fit_not_large, not_large_fit}
use Rattle.cutting_sizes.proofs.laws.subtrees_are_bounded.Goals as goal

pub returns-clause-bounded : goal.returns-clause-bounded
returns-clause-bounded c = bounded_parts

pub returns-clause-fit : goal.returns-clause-fit
returns-clause-fit c = fit_parts

pub returns-clause-fit_bounded : goal.returns-clause-fit_bounded
returns-clause-fit_bounded c = fit_bounded

pub returns-clause-fit_small : goal.returns-clause-fit_small
returns-clause-fit_small c = fit_not_large

pub returns-clause-small_fit : goal.returns-clause-small_fit
returns-clause-small_fit c = not_large_fit
