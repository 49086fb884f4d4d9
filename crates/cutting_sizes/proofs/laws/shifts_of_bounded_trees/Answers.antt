use Rattle.tree_cuttings.proofs.Within.{extraction_within, recentring_within}
use Rattle.cutting_sizes.specs.Bounds.{most_shift}
use Rattle.cutting_sizes.proofs.Bounded.{shifts_bounded, lows_bounded}
use Rattle.cutting_sizes.proofs.Recentred.{shifts_fit}
use Rattle.cutting_sizes.proofs.laws.shifts_of_bounded_trees.Goals as goal

pub returns-clause-shifts : goal.returns-clause-shifts
returns-clause-shifts c = shifts_bounded

pub returns-clause-lows : goal.returns-clause-lows
returns-clause-lows c = lows_bounded

pub returns-clause-extraction : goal.returns-clause-extraction
returns-clause-extraction c = λ ty t types b. extraction_within ty t most_shift types (shifts_bounded ty t types b)

pub returns-clause-fit_shifts : goal.returns-clause-fit_shifts
returns-clause-fit_shifts c = shifts_fit

pub returns-clause-recentring : goal.returns-clause-recentring
returns-clause-recentring c = λ ty t types f. recentring_within ty t most_shift types (shifts_fit ty t types f)
