use Rattle.antipode_laws.specs.Antipode.{tree_terms, nothing}
use Rattle.antipode_laws.specs.Constants.{expected}
use Rattle.antipode_laws.proofs.Solutions.{unique}
use Rattle.antipode_laws.proofs.laws.solutions_are_unique.Goals as goal

pub returns-clause-antipode : goal.returns-clause-antipode
returns-clause-antipode c = λ ty. unique ty tree_terms nothing

pub returns-clause-constants : goal.returns-clause-constants
returns-clause-constants c = λ ty held. unique ty (expected ty) held
