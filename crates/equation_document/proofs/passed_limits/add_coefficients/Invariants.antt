use Rattle.std.proofs.Common.{◌≡◌, ◌++◌, ◌∷◌, [], take, fold}
use Rattle.equation_document.proofs.passed_limits.add_coefficients.Given as goal

abbrev pub invariant-loop-term : goal.invariant-loop-term
invariant-loop-term l = l.fractions ≡ fold (λ gs t. gs ++ t.coefficient ∷ []) l.initial.fractions (take l.term-index l.terms)
