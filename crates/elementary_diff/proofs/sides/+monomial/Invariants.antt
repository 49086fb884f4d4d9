use Rattle.std.proofs.Common.{length}
use Rattle.elementary_diff.proofs.sides.+monomial.Given as goal

abbrev pub decreases-monomial : goal.decreases-monomial
decreases-monomial l = length l.parameters.now
