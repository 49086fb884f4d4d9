use Rattle.std.proofs.Common.{length}
use Rattle.elementary_diff.proofs.total_derivatives.+further.Given as goal

abbrev pub decreases-further : goal.decreases-further
decreases-further l = length l.symbols.now
