use Rattle.std.proofs.Common.{◌≡◌, ◌+◌, ◌<◌}
use Rattle.exact_sums.specs.Saturating.{overflow}
use Rattle.exact_sums.specs.Binomials.{binomial}
use Rattle.exact_sums.proofs.multinomials.binomial_over.Given as goal

abbrev pub invariant-loop-i : goal.invariant-loop-i
invariant-loop-i l = record { value : l.c ≡ binomial (l.b + l.i) l.i; below : l.c < overflow }
