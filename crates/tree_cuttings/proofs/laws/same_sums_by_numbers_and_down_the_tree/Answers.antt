use Rattle.tree_cuttings.proofs.SameSums.{cutting_sum_is, value_sum_is}
use Rattle.tree_cuttings.proofs.laws.same_sums_by_numbers_and_down_the_tree.Goals as goal

pub returns-clause-tests : goal.returns-clause-tests
returns-clause-tests c = cutting_sum_is

pub returns-clause-values : goal.returns-clause-values
returns-clause-values c = value_sum_is
