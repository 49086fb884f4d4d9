use Rattle.std.proofs.Common.{◌≡◌, drop}
use Rattle.equation_document.specs.FirstOf.{first_of}
use Rattle.equation_document.specs.Limits.{right_terms}
use Rattle.equation_document.proofs.passed_limits.rights_terms.Given as goal

-- the first of all is the first of those that are left
abbrev pub invariant-loop-right : goal.invariant-loop-right
invariant-loop-right l = first_of right_terms l.rights ≡ first_of right_terms (drop l.right-index l.rights)
