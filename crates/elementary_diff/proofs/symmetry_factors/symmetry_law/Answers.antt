use Rattle.elementary_diff.proofs.SymmetryLaws.{symmetry_is}
use Rattle.elementary_diff.proofs.symmetry_factors.symmetry_law.Goals as goal

pub returns : goal.returns
returns c = symmetry_is
