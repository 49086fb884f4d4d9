use Rattle.recentring_coproduct.specs.Held.{FitsPool}
use Rattle.cutting_examples.proofs.compared.compared_recentrings.Given as goal

abbrev pub invariant-loop-id : goal.invariant-loop-id
invariant-loop-id l = FitsPool l.recentrer l.pool
