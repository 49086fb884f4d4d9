use Rattle.vanishing_constants.proofs.VanishingConstants.{vanishing_zero}
use Rattle.vanishing_constants.proofs.laws.constants_of_vanishing_trees.Goals as goal

pub returns : goal.returns
returns c = vanishing_zero
