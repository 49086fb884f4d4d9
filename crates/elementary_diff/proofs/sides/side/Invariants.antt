use Rattle.std.proofs.Common.{◌≡◌, drop}
use Rattle.elementary_diff.specs.Differentials.{side_of, right_terms}
use Rattle.elementary_diff.proofs.sides.side.Given as goal

abbrev pub invariant-loop-u : goal.invariant-loop-u
invariant-loop-u l = side_of l.eq.types (drop l.u-index l.u-items) l.kernel.0 ≡ right_terms l.eq l.kernel.0
