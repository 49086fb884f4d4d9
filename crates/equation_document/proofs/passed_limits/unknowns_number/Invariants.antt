use Rattle.std.proofs.Common.{◌≡◌, drop}
use Rattle.equation_document.specs.FirstOf.{first_of}
use Rattle.equation_document.specs.Limits.{unknown_number}
use Rattle.equation_document.proofs.passed_limits.unknowns_number.Given as goal

-- the first of all is the first of those that are left
abbrev pub invariant-loop-unknown : goal.invariant-loop-unknown
invariant-loop-unknown l = first_of unknown_number l.unknowns ≡ first_of unknown_number (drop l.unknown-index l.unknowns)
