use Rattle.std.proofs.Common.{arith, refl}
use Rattle.plain_trees.proofs.CanonTests.{alone}
use Rattle.plain_trees.proofs.canon.is_at_most_next.Goals as goal

pub returns-in-None : goal.returns-in-None
returns-in-None c = (λ _. alone c.args.edges.now c.args.i (omega (arith, c.in-None.ensures.lookup)), λ _. refl)
