use Rattle.std.proofs.Common.{◌≡◌, [], take, fold}
use Rattle.equation_document.specs.Limits.{with_coefficients}
use Rattle.equation_document.proofs.passed_limits.coefficients_of.Given as goal

abbrev pub invariant-loop-right : goal.invariant-loop-right
invariant-loop-right l = l.fractions ≡ fold with_coefficients [] (take l.right-index l.rights)
