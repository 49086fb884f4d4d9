use Rattle.std.proofs.Common.{◌≡◌, drop}
use Rattle.equation_document.specs.FirstOf.{over, first_of}
use Rattle.equation_document.proofs.terms.first_over.Given as goal

-- the first of all is the first of those that are left
abbrev pub invariant-loop-number : goal.invariant-loop-number
invariant-loop-number l = first_of (over l.most) l.numbers ≡ first_of (over l.most) (drop l.number-index l.numbers)
