use Rattle.antipode_laws.specs.Antipode.{tree_terms, nothing}
use Rattle.antipode_laws.specs.Constants.{expected}
use Rattle.antipode_laws.proofs.Solutions.{solution, is_solution}
use Rattle.antipode_laws.proofs.laws.solutions_exist.Goals as goal

pub returns-clause-antipode : goal.returns-clause-antipode
returns-clause-antipode c = λ ty. (solution ty tree_terms nothing, is_solution ty tree_terms nothing)

pub returns-clause-constants : goal.returns-clause-constants
returns-clause-constants c = λ ty held. (solution ty (expected ty) held, is_solution ty (expected ty) held)
