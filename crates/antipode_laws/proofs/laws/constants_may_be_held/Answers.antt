use Rattle.antipode_laws.specs.Constants.{expected}
use Rattle.antipode_laws.proofs.Solutions.{held_values}
use Rattle.antipode_laws.proofs.SameValues.{same_solutions}
use Rattle.antipode_laws.proofs.laws.constants_may_be_held.Goals as goal

pub returns-clause-itself : goal.returns-clause-itself
returns-clause-itself c = λ ty. held_values ty (expected ty)

pub returns-clause-same : goal.returns-clause-same
returns-clause-same c = λ ty held more a b. same_solutions a b (expected ty) ty held more
