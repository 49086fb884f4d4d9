use Rattle.std.proofs.Common.{◌≡◌, drop}
use Rattle.equation_document.specs.FirstOf.{first_of}
use Rattle.equation_document.specs.Terms.{term_number}
use Rattle.equation_document.proofs.terms.terms_number.Given as goal

-- the first of all is the first of those that are left
abbrev pub invariant-loop-term : goal.invariant-loop-term
invariant-loop-term l = first_of term_number l.terms ≡ first_of term_number (drop l.term-index l.terms)
