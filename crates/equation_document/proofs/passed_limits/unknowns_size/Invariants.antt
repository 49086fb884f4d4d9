use Rattle.std.proofs.Common.{◌≡◌, drop}
use Rattle.equation_document.specs.FirstOf.{first_of}
use Rattle.equation_document.specs.Limits.{unknown_size}
use Rattle.equation_document.proofs.passed_limits.unknowns_size.Given as goal

-- the first of all is the first of those that are left
abbrev pub invariant-loop-unknown : goal.invariant-loop-unknown
invariant-loop-unknown l = first_of unknown_size l.unknowns ≡ first_of unknown_size (drop l.unknown-index l.unknowns)
