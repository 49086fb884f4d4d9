use Rattle.std.proofs.Common.{arith}
use Rattle.large_trees.proofs.Bounds.{within_plus}
use Rattle.large_trees.proofs.gaps.edge_regularity.Goals as goal

pub returns-clause-small : goal.returns-clause-small
returns-clause-small c = rw c.plus.ensures (within_plus c.regularity.result.a c.loss.result.a 20000000 500000000000000000 1000000000000000000 c.regularity.ensures.small c.loss.ensures.small (omega arith))
