use Rattle.std.proofs.Common.{◌≡◌, take}
use Rattle.std.specs.Str.Parse.{digits_value}
use Rattle.exact_sums.specs.Saturating.{saturated}
use Rattle.numerals.proofs.digits.magnitude.Given as goal

abbrev pub invariant-loop-digit : goal.invariant-loop-digit
invariant-loop-digit l = l.number ≡ saturated (digits_value 10 (take l.digit-index l.digits))
