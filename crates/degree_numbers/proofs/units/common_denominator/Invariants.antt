use Rattle.std.proofs.Common.{take}
use Rattle.degree_numbers.specs.Fraction.{IsCommon}
use Rattle.degree_numbers.specs.Units.{fractions}
use Rattle.degree_numbers.proofs.units.common_denominator.Given as goal

abbrev pub invariant-loop-w : goal.invariant-loop-w
invariant-loop-w l = IsCommon l.common (fractions (take l.w-index l.list))
