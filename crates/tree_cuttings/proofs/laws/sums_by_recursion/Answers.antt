use Rattle.tree_cuttings.proofs.SameSums.{cutting_sum_by_entries, cutting_sum_by_good_entries, closed_sum_by_entries}
use Rattle.tree_cuttings.proofs.laws.sums_by_recursion.Goals as goal

pub returns-clause-all : goal.returns-clause-all
returns-clause-all c = cutting_sum_by_entries

pub returns-clause-good : goal.returns-clause-good
returns-clause-good c = cutting_sum_by_good_entries

pub returns-clause-closed : goal.returns-clause-closed
returns-clause-closed c = closed_sum_by_entries
