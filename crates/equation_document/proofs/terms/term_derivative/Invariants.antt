use Rattle.std.proofs.Common.{◌≡◌, drop}
use Rattle.equation_document.specs.FirstOf.{first_of}
use Rattle.equation_document.specs.Terms.{factor_derivative}
use Rattle.equation_document.proofs.terms.term_derivative.Given as goal

-- the first of all is the first of those that are left
abbrev pub invariant-loop-factor : goal.invariant-loop-factor
invariant-loop-factor l = first_of factor_derivative l.factor-items ≡ first_of factor_derivative (drop l.factor-index l.factor-items)
