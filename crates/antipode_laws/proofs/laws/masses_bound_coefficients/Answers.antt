use Rattle.antipode_laws.specs.Antipode.{tree_terms, nothing}
use Rattle.antipode_laws.specs.Constants.{expected}
use Rattle.antipode_laws.proofs.SizeLaws.{within_mass, tree_single, expected_single}
use Rattle.antipode_laws.proofs.laws.masses_bound_coefficients.Goals as goal

pub returns-clause-antipode : goal.returns-clause-antipode
returns-clause-antipode c = λ ty a. within_mass tree_terms tree_single a ty nothing (λ t w h. absurd cc)

pub returns-clause-constants : goal.returns-clause-constants
returns-clause-constants c = λ ty held a given. within_mass (expected ty) (expected_single ty) a ty held given
