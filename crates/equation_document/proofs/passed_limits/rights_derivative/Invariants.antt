use Rattle.std.proofs.Common.{◌≡◌, drop}
use Rattle.equation_document.specs.FirstOf.{first_of}
use Rattle.equation_document.specs.Terms.{term_derivative}
use Rattle.equation_document.proofs.passed_limits.rights_derivative.Given as goal

-- the first of all is the first of those that are left
abbrev pub invariant-loop-right : goal.invariant-loop-right
invariant-loop-right l = first_of (first_of term_derivative) l.rights ≡ first_of (first_of term_derivative) (drop l.right-index l.rights)
