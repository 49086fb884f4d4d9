use Rattle.std.proofs.Common.{◌<◌, map, take}
use Rattle.degree_numbers.specs.Fraction.{IsCommon}
use Rattle.equation_document.proofs.LeastCommon.{plain}
use Rattle.equation_document.proofs.denominator.least_common_of.Given as goal

abbrev pub invariant-loop-f : goal.invariant-loop-f
invariant-loop-f l = IsCommon l.common (map plain (take l.f-index l.fractions)) × (0 < l.common)
