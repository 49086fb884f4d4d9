use Rattle.std.proofs.Common.{arith}
use Rattle.equation_document.proofs.LimitFacts.{is_within}
use Rattle.equation_file.proofs.build.document_equation.Goals as goal

pub equation_in-requires-clause-units : goal.equation_in-requires-clause-units
equation_in-requires-clause-units c = omega (arith, c.in_ok-units.ensures.value, (is_within _ c.requires.limits).units)

pub equation_in-requires-clause-denominator : goal.equation_in-requires-clause-denominator
equation_in-requires-clause-denominator c = omega (arith, c.in_ok-denominator.ensures.value, (is_within _ c.requires.limits).denominator)
