use Rattle.std.proofs.Common.{◌≡◌, take, fold}
use Rattle.equation_document.specs.Limits.{unknown_fractions}
use Rattle.equation_document.proofs.passed_limits.add_unknowns.Given as goal

abbrev pub invariant-loop-unknown : goal.invariant-loop-unknown
invariant-loop-unknown l = l.fractions ≡ fold unknown_fractions l.initial.fractions (take l.unknown-index l.unknowns)
