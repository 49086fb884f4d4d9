use Rattle.cutting_tables.proofs.Rooted.{right_step, left_above, right_above}
use Rattle.cutting_tables.proofs.laws.one_more_right_branch.Goals as goal

pub returns-clause-table : goal.returns-clause-table
returns-clause-table c = λ ty n m k p b t us vs types most under h g. right_step ty n k p b t types m most under us vs h g

pub returns-clause-left_above : goal.returns-clause-left_above
returns-clause-left_above c = left_above

pub returns-clause-right_above : goal.returns-clause-right_above
returns-clause-right_above c = right_above
