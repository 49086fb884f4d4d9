use Rattle.recentring_coproduct.specs.Held.{FitsPool}
use Rattle.cutting_examples.proofs.counts.recentring_terms.Given as goal

abbrev pub invariant-loop-id : goal.invariant-loop-id
invariant-loop-id l = FitsPool l.recentrer l.pool
