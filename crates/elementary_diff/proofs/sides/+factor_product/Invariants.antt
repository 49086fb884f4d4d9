use Rattle.std.proofs.Common.{length}
use Rattle.elementary_diff.proofs.sides.+factor_product.Given as goal

abbrev pub decreases-factor_product : goal.decreases-factor_product
decreases-factor_product l = length l.factors.now
