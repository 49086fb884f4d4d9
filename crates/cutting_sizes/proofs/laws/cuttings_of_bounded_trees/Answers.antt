use Rattle.cutting_sizes.proofs.Bounded.{entries_closed_bounded, terms_bounded, entries_live_bounded, entries_idle_bounded}
use Rattle.cutting_sizes.proofs.laws.cuttings_of_bounded_trees.Goals as goal

pub returns-clause-closed : goal.returns-clause-closed
returns-clause-closed c = entries_closed_bounded

pub returns-clause-terms : goal.returns-clause-terms
returns-clause-terms c = terms_bounded

pub returns-clause-live : goal.returns-clause-live
returns-clause-live c = entries_live_bounded

pub returns-clause-idle : goal.returns-clause-idle
returns-clause-idle c = entries_idle_bounded
