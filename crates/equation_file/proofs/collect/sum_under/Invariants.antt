use Rattle.std.proofs.Common.{◌≡◌, ◌≤◌, ◌*◌, ◌^◌, take}
use Rattle.equation_file.specs.Collect.{sum_under}
use Rattle.equation_file.proofs.collect.sum_under.Given as goal

abbrev pub invariant-loop-term : goal.invariant-loop-term
invariant-loop-term l = (l.sum ≡ sum_under l.negative l.den (take l.term-index l.terms) l.like) × (l.sum ≤ 1000000 * 2 ^ 64 * l.term-index)
