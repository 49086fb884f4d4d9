use Rattle.stored_constants.proofs.TrueLaws.{constants_same, new_true}
use Rattle.stored_constants.proofs.laws.true_rows.Goals as goal

pub returns-clause-constants : goal.returns-clause-constants
returns-clause-constants c = λ ty rows ts held a k types all fit are_held constants also t typed. constants_same ty rows ts held types all fit are_held a constants k also t typed

pub returns-clause-new : goal.returns-clause-new
returns-clause-new c = new_true
