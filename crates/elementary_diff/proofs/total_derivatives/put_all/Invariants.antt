use Rattle.std.proofs.Common.{◌≡◌, ◌++◌}
use Rattle.elementary_diff.proofs.total_derivatives.put_all.Given as goal

abbrev pub invariant-loop-term : goal.invariant-loop-term
invariant-loop-term l = l.terms.items ≡ l.fn.terms.items ++ l.yielded
