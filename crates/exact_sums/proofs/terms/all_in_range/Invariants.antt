use Rattle.std.proofs.Common.{ℕ, ◌<◌, ◌≤◌, get_or}
use Rattle.exact_sums.specs.Saturating.{overflow}
use Rattle.exact_sums.proofs.terms.all_in_range.Given as goal

abbrev pub invariant-loop-t : goal.invariant-loop-t
invariant-loop-t g l = (k : ℕ) (d : _) → k < l.t-index → (get_or l.terms k d).1 ≤ overflow
