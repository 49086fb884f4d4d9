use Rattle.std.proofs.Common.{◌≡◌, map, take}
use Rattle.equation_file.specs.Collect.{summed, kept}
use Rattle.equation_file.proofs.collect.collected.Given as goal

abbrev pub invariant-loop-term : goal.invariant-loop-term
invariant-loop-term l = l.found ≡ kept (summed l.den l.terms (map (λ s. s.now) (take l.term-index l.term-items)))
