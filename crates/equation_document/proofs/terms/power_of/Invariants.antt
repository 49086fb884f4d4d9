use Rattle.std.proofs.Common.{◌≡◌, ◌+◌, min, take, fold}
use Rattle.text_parts.specs.Reading.{most}
use Rattle.equation_document.proofs.terms.power_of.Given as goal

abbrev pub invariant-loop-factor : goal.invariant-loop-factor
invariant-loop-factor l = l.power ≡ min (fold (λ n f. n + f.power) 0 (take l.factor-index l.factor-items)) most
