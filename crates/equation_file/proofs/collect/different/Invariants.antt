use Rattle.std.proofs.Common.{◌≡◌, map, take}
use Rattle.equation_file.specs.Collect.{different}
use Rattle.equation_file.proofs.collect.different.Given as goal

abbrev pub invariant-loop-term : goal.invariant-loop-term
invariant-loop-term l = map (λ s. s.now) l.seen.items ≡ different (take l.term-index l.terms)
