use Rattle.std.proofs.Common.{◌≡◌, ◌+◌, ◌*◌, ◌≤◌, sum, drop}
use Rattle.exact_sums.specs.Saturating.{overflow, saturated}
use Rattle.exact_sums.specs.Binomials.{multinomial}
use Rattle.exact_sums.proofs.MultinomialLaws.{multinomial_from}
use Rattle.exact_sums.proofs.multinomials.multinomial_of.Given as goal

abbrev pub invariant-loop-x : goal.invariant-loop-x
invariant-loop-x l =
    let rest = drop l.x-index l.parts in
    record {
      below : l.ways ≤ overflow;
      size : l.size + sum rest ≡ sum l.parts;
      ways : saturated (l.ways * multinomial_from l.size rest) ≡ saturated (multinomial l.parts);
    }
